-- One way to share out the pool: the free pages are a stack, an area grows by its top, and gives its last page back.
use Rattle.std.specs.Prelude.{ℕ, ◌-◌, not, if◌then◌else◌, List, [], ◌∷◌, ◌++◌, length, take, drop, filter}
use Rattle.std.specs.List.{range_with_len}
use Rattle.rh_defs.specs.Files.{FileList}
use Rattle.rh_defs.specs.Desk.{Desk, module_area}
use Rattle.rh_defs.specs.Script.{meaning_desk}
use Rattle.rh_defs.specs.Runs.{start}
use Rattle.rh_figure.specs.Share.{Owner, AreaOf, is_owner, Holding, holdings, count_of, Share}
use Rattle.rh_figure.specs.Map.{Read, Stage, read_lines}

-- an owner and its pages from below
abbrev pub Kept : Type 0
Kept = Owner × List ℕ

pub record Shares : Type 0 where
  pub free : List ℕ
  pub kept : List Kept

abbrev pub reversed : List ℕ → List ℕ
reversed [] = []
reversed (n ∷ ns) = reversed ns ++ n ∷ []

abbrev pub pages_in : List Kept → Owner → List ℕ
pages_in [] o = []
pages_in (k ∷ kept) o = if is_owner o k.0 then k.1 else pages_in kept o

-- who has fewer pages now gives the last ones back
abbrev pub given_back : List Holding → List Kept → List ℕ → List ℕ
given_back now [] free = free
given_back now (k ∷ kept) free = given_back now kept (free ++ reversed (drop (count_of k.0 now) k.1))

-- who has more takes them
abbrev pub taken : List Kept → List Holding → Shares → Shares
taken old [] s = s
taken old (o ∷ now) s = taken old now (with_pages (take o.1 (pages_in old o.0)))
  where
    with_pages : List ℕ → Shares
    with_pages mine = record {
      free = take (length s.free - (o.1 - length mine)) s.free;
      kept = s.kept ++ (o.0, mine ++ reversed (drop (length s.free - (o.1 - length mine)) s.free)) ∷ [];
    }

-- the module area comes last
abbrev pub module_last : List Holding → List Holding
module_last os =
    filter (λ (o : Holding). not (is_owner (AreaOf module_area) o.0)) os
    ++ filter (λ (o : Holding). is_owner (AreaOf module_area) o.0) os

abbrev pub settled : Shares → Desk → Shares
settled s d =
    taken s.kept (module_last (holdings d)) (record { free = given_back (holdings d) s.kept s.free; kept = [] })

abbrev pub share_of : Shares → Share
share_of s = record { free = s.free; pages_of = pages_in s.kept }

-- lines of a script, each with the share behind it
abbrev pub stages_settled : Shares → Desk → List Read → List Stage
stages_settled s d [] = []
stages_settled s d ((line, meaning) ∷ rest) =
    ((line, meaning), share_of (settled s (meaning_desk d meaning)))
    ∷ stages_settled (settled s (meaning_desk d meaning)) (meaning_desk d meaning) rest

abbrev pub all_settled : List ℕ → ℕ → FileList → List Stage
all_settled script pages files =
    stages_settled (settled (record { free = range_with_len 0 pages; kept = [] }) (start pages files))
    (start pages files) (read_lines script)
