use Rattle.std.proofs.Common.{◌≡◌, ◌+◌, ◌∷◌, arith, ap, ◌∙◌, length, take, refl}
use Rattle.std.specs.Prelude.{nat_lt, ◌&&◌}
use borrow.Author.Tests.{tests}
use Rattle.rh_lines.specs.WholeText.{text_offered}
use Rattle.rh_lines.proofs.TextLemmas.{none-beyond, offered-whole, rest-later, rest-put}
use Rattle.rh_lines.proofs.whole_text.WholeText.add_whole.Goals as goal

pub invariant_of-self : goal.invariant_of-self
invariant_of-self c =
    let s = c.args.self.now in
    let n = length c.args.bytes.now in
    let none = none-beyond s.beyond.bytes s.taken n (length s.bytes.now) c.requires s.full in
    let few : length s.beyond.bytes ≡ 0 = ap length none in
    record {
      fits = omega arith;
      same = s.same;
      rest = rest-later s.bytes.now s.before.bytes s.taken n s.rest;
      full = ap (λ k. nat_lt (s.taken + n) (length s.bytes.now) && nat_lt 0 k) few ∙ grind (arith, tests);
      counted = omega arith;
    }

pub invariant_of-self-2 : goal.invariant_of-self-2
invariant_of-self-2 c =
    let s = c.args.self.now in
    let n = length c.args.bytes.now in
    let none = none-beyond s.beyond.bytes s.taken n (length s.bytes.now) c.requires s.full in
    let few : length s.beyond.bytes ≡ 0 = ap length none in
    record {
      fits = omega arith;
      same = c.put_at.auto.to ∙ s.same;
      rest = rest-put c.put_at.new.to s.bytes.now s.before.bytes s.taken n n refl c.put_at.ensures.rest s.rest;
      full = ap (λ k. nat_lt (s.taken + n) (length c.put_at.new.to) && nat_lt 0 k) few ∙ grind (arith, tests);
      counted = omega arith;
    }

pub returns : goal.returns
unfolding text_offered
returns c =
    let s = c.args.self.now in
    let n = length c.args.bytes.now in
    ap (λ l. s.bytes.ghost_name ∷ length s.before.bytes ∷ l)
    (offered-whole s.before.bytes (take s.taken s.bytes.now) c.args.bytes.now s.beyond.bytes (take (s.taken + n) c.put_at.new.to)
    (none-beyond s.beyond.bytes s.taken n (length s.bytes.now) c.requires s.full) c.put_at.ensures.front)
