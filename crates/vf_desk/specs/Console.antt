-- Lists and texts that are put into lent ones.
use Rattle.std.specs.Prelude.{◌≡◌, ℕ, nat_le, if◌then◌else◌, List, ◌++◌, length, take, drop, Option, Some, None}

-- the old list with the items in place of its first ones, as many as it has room for
abbrev pub filled_front : {A : Type 0} → List A → List A → List A
filled_front items old = take (length old) items ++ drop (length items) old

-- the lent bytes with a text in place of their first ones, or as they are where they have no room for it
abbrev pub with_text : List ℕ → List ℕ → List ℕ
with_text text lent =
    if nat_le (length text) (length lent) then text ++ drop (length text) lent else lent

-- the length of a text, if so many bytes have room for it
abbrev pub fitting : List ℕ → ℕ → Option ℕ
fitting text room = if nat_le (length text) room then Some (length text) else None

-- lent bytes have a text, and its length is answered, if they have room for it; if not they stay
pub record Prints (text old now : List ℕ) (result : Option ℕ) : Type 0 where
  pub bytes : now ≡ with_text text old
  pub length_is : result ≡ fitting text (length old)
