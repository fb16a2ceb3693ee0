use Rattle.std.proofs.Common.{rules, ◌≡◌, ◌⊎◌, inl, inr, refl}
use Rattle.clap.specs.Values.{kind_of}
use Rattle.clap.specs.declared.error.kind.ErrorKind.TheVariants as kind
use Rattle.rh_session.specs.declared.status.RunFault.TheVariants.{NoMemory, WriteFailed}
use Rattle.rh_desk.proofs.telling.tell_words_error.Goals as goal

pub returns-in_default-clause-fault : goal.returns-in_default-clause-fault
returns-in_default-clause-fault g c = λ fault. inl (c.ended.ensures.errors NoMemory refl, refl)

pub returns-clause-fault : goal.returns-clause-fault
returns-clause-fault g c = λ fault.
    let shown : (kind_of c.args.error.now ≡ kind.DisplayHelp) ⊎ (kind_of c.args.error.now ≡ kind.DisplayVersion) = search rules in
    inr (c.ended-in-Err.ensures.errors WriteFailed refl, (_, c.in-Err.ensures.err), shown)
