-- What a command's words say of the command.
use Rattle.std.proofs.Common.{◌≡◌, ap, refl, Bool, true, false, not, ◌&&◌, Option, Some, None}
use Rattle.std.specs.Option.{IsSomeAnd}

-- of four tests that pass the third
pub third-passes : (a b c d : Bool) → (a && (not b && (not c && d))) ≡ true → c ≡ false
third-passes true false false d h = refl
third-passes true false true d h = absurd (let f = h in cc)
third-passes true true c d h = absurd (let f = h in cc)
third-passes false b c d h = absurd (let f = h in cc)

-- the value that an Option has
pub some-is : {X : Type 0} (o : Option X) (x : X) → IsSomeAnd o (λ y. y ≡ x) → o ≡ Some x
some-is (Some y) x h = ap Some h
some-is None x h = absurd h
