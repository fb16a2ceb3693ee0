use Rattle.std.proofs.Common.{◌++◌, ◌≡◌, ◌∙◌, List, ℕ, ap, append_assoc, codes, rules}
use Rattle.rh_defs.specs.Text.{address}
use Rattle.rh_explained.proofs.oddity.put_foreign.Goals as goal

-- three texts behind what was there
three : (o a b c : List ℕ) → ((o ++ a) ++ b) ++ c ≡ o ++ (a ++ (b ++ c))
three o a b c = append_assoc (o ++ a) b c ∙ append_assoc o a (b ++ c)

pub returns : goal.returns
returns g c =
    let front = codes ": the byte " in
    let back = codes "; words have characters from ! to ~ alone" in
    let old = g.P.Pen.offered c.args.pen.now in
    let same : c.from.result ≡ c.args.byte = search rules in
    c.put-2.ensures
    ∙ (ap (λ z. z ++ back) (c.put_address.ensures ∙ (ap (λ z. z ++ address c.from.result) c.put.ensures
    ∙ ap (λ n. (old ++ front) ++ address n) same))
    ∙ three old front (address c.args.byte) back)
