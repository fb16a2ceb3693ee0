use Rattle.rh_wimp.proofs.Common.{ℕ, ◌+◌, ◌-◌, ◌++◌, take, drop, length, ◌≤◌, ap, ◌∙◌, arith, length-take, written, word_bytes}
use Rattle.std.proofs.Math.ListN.{drop_of_length-le}
use Rattle.rh_wimp.proofs.bytes.put_word.Goals as goal

pub returns : goal.returns
unfolding word_bytes
returns c =
    let b = c.args.out.now in
    let n : ℕ = c.args.at + 4 - c.args.at in
    let few = length-take n (drop c.args.at b) in
    let none = drop_of_length-le (take n (drop c.args.at b)) (let l : length (take n (drop c.args.at b)) ≤ 4 = omega arith in l) in
    written c.args.at _ b _ (word_bytes c.args.w) (c.write_u32.ensures ∙ ap (λ l. word_bytes c.args.w ++ l) none) (omega arith) c.requires
