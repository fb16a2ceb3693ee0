-- A run of n bytes from the index `at` on, among bytes that lie at one place: it is taken out, the bytes before and past it
-- stay, and any run as long is put in where it was.
use Rattle.rh_region.proofs.Common.{◌≡◌, refl, sym, ap, ◌∙◌, List, [], ◌∷◌, ◌++◌, ℕ, ◌+◌, ◌≤◌, arith, Ura, length, full_share, Fml, fsep, ent, sep, guard}
use Rattle.rh_region.proofs.Common.{Logic, sem, ⋆, ‵, ◌⊛◌, ◌$◌, ◌∵◌, !, qed, by, move, use1, use2, split, frame, check, rewrite, fsplit, fsplit3, fjoin}
use Rattle.rh_region.proofs.Common.{feq_i, feq_l, done, Array, u8, part_at, bytes}
use lib.ListN.{take, drop, take-append-drop, length-take, length-drop, length-append}
use lib.Seq.{drop-drop}
use base.Fml.{feq}
use types.SemTy.{cells}
use types.Kit.{fjoin3}
use denote.Index.{whole_in, whole_out}
use denote.Memory.{mem}
use denote.RawPtr.Bytes.{bytes_cut, bytes_glue, bytes_apart, bytes_whole}
use Rattle.rh_region.specs.Patched.{with_run}

module _ {M : Type 1} {𝓤 : Ura M} (𝓛 : Logic 𝓤) (at n b o : ℕ) (xs : List ℕ) (within : at + n ≤ length xs) where
  abbrev pub run : List ℕ
  run = take n (drop at xs)

  abbrev before : List ℕ
  before = take at xs

  abbrev past : List ℕ
  past = drop (at + n) xs

  abbrev Before : Fml
  Before = bytes full_share before b o

  abbrev Past : Fml
  Past = bytes full_share past b (at + o + n)

  pub run_long : length run ≡ n
  run_long = omega (arith, length-take n (drop at xs), length-drop at xs, within)

  -- bytes in three pieces, each where it lies
  abbrev In3 : List ℕ → Fml
  In3 ws = fsep Before (fsep (bytes full_share ws b (at + o)) Past)

  -- the index `at` is where the bytes before it end
  starts : at + o ≡ o + length before
  starts = omega (arith, length-take at xs, within)

  cut : ent 𝓤 (sem 𝓛 (bytes full_share xs b o)) (sem 𝓛 (In3 run))
  cut =
      let here = starts in let long = run_long in let rest : drop at xs ≡ run ++ past = sym (take-append-drop n (drop at xs))
      ∙ ap (λ (ys : List ℕ). run ++ ys) (drop-drop n at xs) in
      qed 𝓛 (‵ (bytes full_share xs b o) ∷ []) ∵ rewrite ! 0 (λ (ys : List ℕ). ‵ (bytes full_share ys b o)) (sym (take-append-drop at xs)) refl $
      use1 𝓛 (‵ Before ⊛ ‵ (bytes full_share (drop at xs) b (o + length before))) (bytes_cut 𝓛 full_share before (drop at xs) b o) $ split ! $ move ! (1 ∷ []) $
      rewrite ! 0 (λ (k : ℕ). ‵ (bytes full_share (drop at xs) b k)) (sym here) refl $
      rewrite ! 0 (λ (ys : List ℕ). ‵ (bytes full_share ys b (at + o))) rest refl $
      use1 𝓛 (‵ (bytes full_share run b (at + o)) ⊛ ‵ (bytes full_share past b (at + o + length run))) (bytes_cut 𝓛 full_share run past b (at + o)) $ split ! $
      rewrite ! 1 (λ (k : ℕ). ‵ (bytes full_share past b (at + o + k))) long refl $ move ! (2 ∷ 0 ∷ 1 ∷ []) $ fjoin3 ! $ done !

  glue : (ws : List ℕ) → length ws ≡ n → ent 𝓤 (sem 𝓛 (In3 ws)) (sem 𝓛 (bytes full_share (with_run xs at n ws) b o))
  glue ws same =
      let here = starts in
      qed 𝓛 (‵ (In3 ws) ∷ []) ∵ fsplit3 ! $ rewrite ! 2 (λ (k : ℕ). ‵ (bytes full_share past b (at + o + k))) (sym same) refl $ move ! (1 ∷ 2 ∷ []) $
      use2 𝓛 (‵ (bytes full_share (ws ++ past) b (at + o))) (bytes_glue 𝓛 full_share ws past b (at + o)) $
      rewrite ! 0 (λ (k : ℕ). ‵ (bytes full_share (ws ++ past) b k)) here refl $ move ! (1 ∷ 0 ∷ []) $
      use2 𝓛 (‵ (bytes full_share (with_run xs at n ws) b o)) (bytes_glue 𝓛 full_share before (ws ++ past) b o) $ done !

  -- what stays behind when the run is taken out
  abbrev pub Outside : Fml
  Outside = fsep Before Past

  -- the same between an array of bytes and the cells of a slice
  pub run_out : (all : ℕ) → ent 𝓤 (sem 𝓛 (part_at (Array u8 all) full_share xs b o))
      (guard 𝓤 (length xs ≡ all) (sep 𝓤 (sem 𝓛 (cells (mem u8) run b (at + o))) (sem 𝓛 Outside)))
  run_out all =
      qed 𝓛 (‵ (part_at (Array u8 all) full_share xs b o) ∷ []) ∵
      use1 𝓛 (‵ (fsep (feq ℕ (length xs) all) (bytes full_share xs b o))) (bytes_apart 𝓛 full_share all xs b o) $
      fsplit ! $ feq_l ! (λ long. use1 𝓛 (‵ (In3 run)) cut $ fsplit3 ! $ move ! (1 ∷ []) $
      use1 𝓛 (‵ (cells (mem u8) run b (at + o))) (whole_in 𝓛 u8 run b (at + o)) $ check ! long $ frame ! $ fjoin ! $ done !)

  pub run_in : (all : ℕ) (ws : List ℕ) → length xs ≡ all → length ws ≡ n
      → ent 𝓤 (⋆ 𝓛 (‵ (cells (mem u8) ws b (at + o)) ∷ ‵ Outside ∷ [])) (sem 𝓛 (part_at (Array u8 all) full_share (with_run xs at n ws) b o))
  run_in all ws long same =
      let count : length (with_run xs at n ws) ≡ all =
      omega (arith, length-append before (ws ++ past), length-append ws past, length-take at xs, length-drop (at + n) xs, long, same, within) in
      qed 𝓛 (‵ (cells (mem u8) ws b (at + o)) ∷ ‵ Outside ∷ []) ∵ use1 𝓛 (‵ (bytes full_share ws b (at + o))) (whole_out 𝓛 u8 ws b (at + o)) $
      move ! (1 ∷ []) $ fsplit ! $ move ! (0 ∷ 2 ∷ 1 ∷ []) $ fjoin3 ! $
      use1 𝓛 (‵ (bytes full_share (with_run xs at n ws) b o)) (glue ws same) $ feq_i ! ℕ (length (with_run xs at n ws)) all count $ fjoin ! $
      by ! (bytes_whole 𝓛 full_share all (with_run xs at n ws) b o)
