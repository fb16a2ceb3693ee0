-- Which page is whose, by one list of all pages of the pool.
use Rattle.std.specs.Prelude.{ℕ, if◌then◌else◌, List, [], ◌∷◌, take, drop}
use Rattle.rh_defs.specs.Desk.{Desk, free_pages}
use Rattle.rh_figure.specs.Share.{Owner, Holding, Share, holdings, is_owner}

-- the pages of an owner in a list that has those of each owner in turn
abbrev pub pages_among : Owner → List Holding → List ℕ → List ℕ
pages_among o [] pages = []
pages_among o (x ∷ xs) pages = if is_owner o x.0 then take x.1 pages else pages_among o xs (drop x.1 pages)

-- the free pages stand first, and then those of each owner
abbrev pub share_in : List ℕ → Desk → Share
share_in pages d = record {
  free = take (free_pages d) pages;
  pages_of = λ o. pages_among o (holdings d) (drop (free_pages d) pages);
}
