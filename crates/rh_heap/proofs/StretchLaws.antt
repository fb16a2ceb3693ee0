-- How a stretch is closed.
use Rattle.rh_heap.proofs.Common.{◌≡◌, ℕ, ◌+◌, ◌-◌, ◌≤◌, ◌≢◌, inl, inr, false, true, List, [], ◌∷◌, ◌++◌, length, refl, sym, ap, subst, ◌∙◌, append_assoc}
use Rattle.rh_heap.proofs.Common.{arith, word, SameOutside, total, Segment, Used, Hole, size_of, IsTidy, with_hole, Spells, tidy_after, HasStretch-kept}
use Rattle.rh_heap.proofs.Common.{link_place, closed, StretchBetween, IsStretch, Settles, Stretch, HasRoom, Await, LinksTo, HasStretch}
use Rattle.rh_defs.proofs.BytesLaws.{word_same}
use Rattle.rh_defs.proofs.HeapLists.{with_hole-nil, with_hole-used, with_hole-hole, tidy_join}
use Rattle.rh_defs.proofs.HeapStretch.{SameBut, LinkPlace, absorbed, reaching, holed}
use Rattle.rh_heap.specs.Inner.HolePuts.{PutsHole}

-- ---- writes that keep to the stretch
pub but_link : {b c : List ℕ} {q : ℕ} → SameOutside b c q (q + 4) → (low edge w : ℕ) → SameBut b c q low edge w
but_link s low edge w = record { len = s.len; same = λ k oq ol ow. elim oq [ inl h ↦ s.below k h | inr h ↦ s.above k h ] }

pub but_body : {b c : List ℕ} {lo hi : ℕ} → SameOutside b c lo hi → (q low edge w : ℕ) → low ≤ lo → hi ≤ edge → SameBut b c q low edge w
but_body s q low edge w l h = record { len = s.len; same = λ k oq ol ow. elim ol [ inl i ↦ s.below k (omega arith) | inr i ↦ s.above k (omega arith) ] }

pub but_base : {b c : List ℕ} {w : ℕ} → SameOutside b c w (w + 4) → (q low edge : ℕ) → SameBut b c q low edge w
but_base s q low edge = record { len = s.len; same = λ k oq ol ow. elim ow [ inl h ↦ s.below k h | inr h ↦ s.above k h ] }

pub but_both : {b c d : List ℕ} {q low edge w : ℕ} → SameBut b c q low edge w → SameBut c d q low edge w → SameBut b d q low edge w
but_both s t = record { len = t.len ∙ s.len; same = λ k oq ol ow. t.same k oq ol ow ∙ s.same k oq ol ow }

pub word_below : {b c : List ℕ} {lo hi : ℕ} → SameOutside b c lo hi → (p : ℕ) → p + 4 ≤ lo → word c p ≡ word b p
word_below {b} {c} s p h = word_same b c p (record { each = λ k u v. s.below k (omega arith) })

pub word_above : {b c : List ℕ} {lo hi : ℕ} → SameOutside b c lo hi → (p : ℕ) → hi ≤ p → word c p ≡ word b p
word_above {b} {c} s p h = word_same b c p (record { each = λ k u v. s.above k (omega arith) })

-- a link stays where its word does
pub LinksTo-kept : {b c : List ℕ} {at f x : ℕ} → LinksTo b at f x → word c f ≡ word b f → LinksTo c at f x
LinksTo-kept {f = f} k e = record { none = λ z. e ∙ k.none z; some = λ nz. ap (λ w. f + w) e ∙ k.some nz; ahead = k.ahead }

-- ---- a stretch's numbers
pub next_range : (b : List ℕ) (at x p : ℕ) (ss : List Segment) → HasRoom ss → Await b at x p ss → (x ≢ 0 → p ≤ at + x)
next_range b at x p [] r h = λ nz. absurd (nz h)
next_range b at x p (Used bs ∷ ss) r h = let a = next_range b at x (p + (4 + length bs)) ss r h.2 in λ nz. let l = a nz in omega arith
next_range b at x p (Hole m ∷ ss) r h = let e = h.0 in λ nz. omega arith

next_in_area : (b : List ℕ) (at x p : ℕ) (ss : List Segment) (n : ℕ) → HasRoom ss → Await b at x p ss → p + total size_of ss ≤ n → at ≤ n → at + x ≤ n
next_in_area b at x p [] n r h l g = omega arith
next_in_area b at x p (Used bs ∷ ss) n r h l g = next_in_area b at x (p + (4 + length bs)) ss n r h.2 (omega arith) g
next_in_area b at x p (Hole m ∷ ss) n r h l g = let e = h.0 in omega arith

pub is_stretch : (b : List ℕ) (at end : ℕ) (xs ys : List Segment) (stretch : Stretch) → StretchBetween b at end xs ys stretch → IsStretch b at stretch
is_stretch b at end xs ys stretch k =
    let s = k.has in
    let l = link_place at xs (at + stretch.link) (at + stretch.low) s.room_before s.link s.place in
    let least = l.least in
    let most = l.most in
    let place = s.place in
    let order = s.order in
    let fits = s.fits in
    let within = s.within in
    let ahead = next_range b at stretch.next (at + stretch.upper) ys s.room_behind s.tail in
    record {
      end = end;
      before = xs;
      behind = ys;
      between = k;
      least = omega arith;
      link_below = omega arith;
      above = omega arith;
      order = omega arith;
      inside = omega arith;
      next_ahead = λ nz. let h = ahead nz in omega arith;
      next_inside = next_in_area b at stretch.next (at + stretch.upper) ys (length b) s.room_behind s.tail (omega arith) (omega arith);
    }

-- ---- a hole that is put into the stretch
base_stays : {b c : List ℕ} {at q low : ℕ} → LinkPlace at q low → SameOutside b c q (q + 4) → word c (at + 8) ≡ word b (at + 8)
base_stays {at = at} l s = elim l.apart [ inl e ↦ word_above s (at + 8) (omega arith) | inr h ↦ word_below s (at + 8) (omega arith) ]

pub puts_hole : (b b1 b2 c : List ℕ) (at : ℕ) (stretch : Stretch) → stretch.low + 8 ≤ stretch.upper
    → SameOutside b b1 (at + stretch.link) (at + stretch.link + 4) → LinksTo b1 at (at + stretch.link) stretch.low
    → SameOutside b1 b2 (at + stretch.low) (at + stretch.low + 4) → LinksTo b2 at (at + stretch.low) stretch.next
    → SameOutside b2 c (at + (stretch.low + 4)) (at + (stretch.low + 4) + 4) → word c (at + (stretch.low + 4)) ≡ stretch.upper - stretch.low
    → PutsHole b c at stretch
puts_hole b b1 b2 c at stretch some o1 k1 o2 k2 o3 size end xs ys k t =
    let s = k.has in
    let q = at + stretch.link in
    let low = at + stretch.low in
    let upper = at + stretch.upper in
    let n = stretch.upper - stretch.low in
    let l = link_place at xs q low s.room_before s.link s.place in
    let most = l.most in
    let place = s.place in
    let but = but_both (but_link o1 low upper (at + 8)) (but_both (but_body o2 q low upper (at + 8) (omega arith) (omega arith))
    (but_body o3 q low upper (at + 8) (omega arith) (omega arith))) in
    let kept = HasStretch-kept b c at end xs ys q low stretch.next upper s but in
    let word_q : word c q ≡ word b1 q = word_below o3 q (omega arith) ∙ word_below o2 q (omega arith) in
    let leads : q + word c q ≡ low = ap (λ w. q + w) word_q ∙ k1.some (omega arith) in
    let sized : word c (low + 4) ≡ n = ap (word c) (omega arith) ∙ size in
    let mult = k.multiple in
    let whole = holed c at end xs ys q low stretch.next upper n kept leads sized (omega arith) (omega arith) in
    let base : word c (at + 8) ≡ word b (at + 8) = word_below o3 (at + 8) (omega arith) ∙ word_below o2 (at + 8) (omega arith) ∙ base_stays l o1 in
    let based = k.based in
    let flat = append_assoc xs (Hole n ∷ []) ys in
    subst (λ ss. Spells c at (record { segments = ss; end = end })) flat
    (closed c at end (xs ++ Hole n ∷ []) ys low (low + n) stretch.next upper whole (omega arith) (LinksTo-kept k2 (word_below o3 low (omega arith)))
    (omega arith)
    (subst (IsTidy false) (sym flat) (tidy_join false xs (Hole n ∷ ys) k.tidy_before (omega arith, mult, t))))

-- ---- a stretch that is settled
settles_top_at : (b b1 c : List ℕ) (at : ℕ) (stretch : Stretch) (end : ℕ) (xs ys : List Segment) → StretchBetween b at end xs ys stretch
    → stretch.upper ≡ word b (at + 8) → SameOutside b b1 (at + stretch.link) (at + stretch.link + 4) → LinksTo b1 at (at + stretch.link) 0
    → SameOutside b1 c (at + 8) (at + 8 + 4) → word c (at + 8) ≡ stretch.low
    → Spells c at (record { segments = xs ++ with_hole (stretch.upper - stretch.low) ys; end = end })
settles_top_at b b1 c at stretch end xs (Used bs ∷ ys) k e o1 k1 o2 low = absurd (let h = k.based in omega arith)
settles_top_at b b1 c at stretch end xs (Hole m ∷ ys) k e o1 k1 o2 low = absurd (let h = k.based in let r = k.has.room_behind.0 in omega arith)
settles_top_at b b1 c at stretch end xs [] k e o1 k1 o2 based =
    let s = k.has in
    let q = at + stretch.link in
    let low = at + stretch.low in
    let upper = at + stretch.upper in
    let l = link_place at xs q low s.room_before s.link s.place in
    let place = s.place in
    let order = s.order in
    let fits = s.fits in
    let kept = HasStretch-kept b c at end xs [] q low stretch.next upper s (but_both (but_link o1 low upper (at + 8)) (but_base o2 q low upper)) in
    let short = reaching c at end xs q low stretch.next upper low kept (omega arith) (omega arith) in
    let word_q : word c q ≡ word b1 q = elim l.apart [ inl u ↦ word_below o2 q (omega arith) | inr u ↦ word_above o2 q (omega arith) ] in
    let none : LinksTo c at q stretch.next = subst (LinksTo c at q) (sym s.tail) (LinksTo-kept k1 word_q) in
    subst (λ l. Spells c at (record { segments = xs ++ l; end = end })) (sym (with_hole-nil (stretch.upper - stretch.low)))
    (closed c at end xs [] q low stretch.next low short refl none (omega arith) (tidy_join false xs [] k.tidy_before tt))

pub settles_top : (b b1 c : List ℕ) (at : ℕ) (stretch : Stretch) → stretch.upper ≡ word b (at + 8)
    → SameOutside b b1 (at + stretch.link) (at + stretch.link + 4) → LinksTo b1 at (at + stretch.link) 0
    → SameOutside b1 c (at + 8) (at + 8 + 4) → word c (at + 8) ≡ stretch.low → Settles b c at stretch
settles_top b b1 c at stretch e o1 k1 o2 low end xs ys k = settles_top_at b b1 c at stretch end xs ys k e o1 k1 o2 low

pub settles_none : (b c : List ℕ) (at : ℕ) (stretch : Stretch) → stretch.low ≡ stretch.upper
    → SameOutside b c (at + stretch.link) (at + stretch.link + 4) → LinksTo c at (at + stretch.link) stretch.next → Settles b c at stretch
settles_none b c at stretch e o k1 end xs ys k =
    let s = k.has in
    let q = at + stretch.link in
    let low = at + stretch.low in
    let upper = at + stretch.upper in
    let l = link_place at xs q low s.room_before s.link s.place in
    let kept = HasStretch-kept b c at end xs ys q low stretch.next upper s (but_link o low upper (at + 8)) in
    let base = base_stays l o in
    let based = k.based in
    subst (λ i. Spells c at (record { segments = xs ++ with_hole i ys; end = end })) (let z : 0 ≡ stretch.upper - stretch.low = omega arith in z)
    (closed c at end xs ys q low stretch.next upper kept (omega arith) k1 (omega arith) (tidy_join false xs ys k.tidy_before k.tidy_behind))

-- a hole follows
abbrev pub grown_stretch : Stretch → ℕ → ℕ → Stretch
grown_stretch stretch size next = record { link = stretch.link; low = stretch.low; next = next; upper = stretch.upper + size }

grown_between : (b : List ℕ) (at : ℕ) (stretch : Stretch) (size next end m : ℕ) (xs ys : List Segment) → StretchBetween b at end xs (Hole m ∷ ys) stretch
    → size ≡ m → LinksTo b at (at + stretch.upper) next → StretchBetween b at end xs ys (grown_stretch stretch size next)
grown_between b at stretch size next end m xs ys k e l =
    let t = k.tidy_behind in
    let mult = k.multiple in
    let m0 = t.1 in
    let order = k.has.order in
    record {
      has = subst (λ u. HasStretch b at end xs ys (at + stretch.link) (at + stretch.low) next u) (omega arith)
          (absorbed b at end xs ys (at + stretch.link) (at + stretch.low) stretch.next next (at + stretch.upper) m k.has l);
      based = let h = k.based in omega arith;
      multiple = omega arith;
      tidy_before = k.tidy_before;
      tidy_behind = tidy_after ys t.2;
    }

-- the segment behind a stretch to whose end the next link leads
data HoleBehind (b : List ℕ) (at end : ℕ) (xs : List Segment) (stretch : Stretch) : List Segment → Type 0 where
  hole_behind : (m : ℕ) (ys : List Segment) → at + stretch.upper + 8 ≤ length b → word b (at + (stretch.upper + 4)) ≡ m
      → HoleBehind b at end xs stretch (Hole m ∷ ys)

hole_behind_at : (b : List ℕ) (at : ℕ) (stretch : Stretch) (end : ℕ) (xs ys : List Segment) → StretchBetween b at end xs ys stretch
    → stretch.upper ≢ word b (at + 8) → stretch.next ≡ stretch.upper → HoleBehind b at end xs stretch ys
hole_behind_at b at stretch end xs [] k ne e = absurd (ne (let h = k.based in omega arith))
hole_behind_at b at stretch end xs (Used bs ∷ ys) k ne e =
    let s = k.has in
    let place = s.place in
    let order = s.order in
    let ahead = next_range b at stretch.next (at + stretch.upper + (4 + length bs)) ys s.room_behind s.tail.2 in
    absurd (let h = ahead (omega arith) in omega arith)
hole_behind_at b at stretch end xs (Hole m ∷ ys) k ne e =
    let s = k.has in
    let big = s.room_behind.0 in
    let fits = s.fits in
    let within = s.within in
    hole_behind m ys (omega arith) (ap (word b) (omega arith) ∙ s.tail.1)

room_behind : {b : List ℕ} {at end : ℕ} {xs ys : List Segment} {stretch : Stretch} → HoleBehind b at end xs stretch ys → at + stretch.upper + 8 ≤ length b
room_behind (hole_behind m zs r w) = r

pub joined_room : (b : List ℕ) (at : ℕ) (stretch : Stretch) → IsStretch b at stretch → stretch.upper ≢ word b (at + 8) → stretch.next ≡ stretch.upper
    → at + stretch.upper + 8 ≤ length b
joined_room b at stretch k ne e = room_behind (hole_behind_at b at stretch k.end k.before k.behind k.between ne e)

joined_stretch_at : (b : List ℕ) (at : ℕ) (stretch : Stretch) (size next end : ℕ) (xs ys : List Segment) → StretchBetween b at end xs ys stretch
    → HoleBehind b at end xs stretch ys → size ≡ word b (at + (stretch.upper + 4)) → LinksTo b at (at + stretch.upper) next
    → IsStretch b at (grown_stretch stretch size next)
joined_stretch_at b at stretch size next end xs ys k (hole_behind m zs r w) e l =
    is_stretch b at end xs zs (grown_stretch stretch size next) (grown_between b at stretch size next end m xs zs k (e ∙ w) l)

pub joined_stretch : (b : List ℕ) (at : ℕ) (stretch : Stretch) (size next : ℕ) → IsStretch b at stretch → stretch.upper ≢ word b (at + 8)
    → stretch.next ≡ stretch.upper → size ≡ word b (at + (stretch.upper + 4)) → LinksTo b at (at + stretch.upper) next
    → IsStretch b at (grown_stretch stretch size next)
joined_stretch b at stretch size next k ne e es l =
    joined_stretch_at b at stretch size next k.end k.before k.behind k.between (hole_behind_at b at stretch k.end k.before k.behind k.between ne e) es l

settles_joined_at : (b c : List ℕ) (at : ℕ) (stretch : Stretch) (size next end : ℕ) (xs ys : List Segment) → stretch.low ≢ stretch.upper
    → StretchBetween b at end xs ys stretch → HoleBehind b at end xs stretch ys → size ≡ word b (at + (stretch.upper + 4))
    → LinksTo b at (at + stretch.upper) next
    → PutsHole b c at (grown_stretch stretch size next) → Spells c at (record { segments = xs ++ with_hole (stretch.upper - stretch.low) ys; end = end })
settles_joined_at b c at stretch size next end xs ys ne k (hole_behind m zs r w) e l puts =
    let order = k.has.order in
    subst (λ l. Spells c at (record { segments = xs ++ l; end = end }))
    (ap (λ i. Hole i ∷ zs) (let es = e ∙ w in omega arith) ∙ sym (with_hole-hole (stretch.upper - stretch.low) m zs (omega arith)))
    (puts end xs zs (grown_between b at stretch size next end m xs zs k (e ∙ w) l) k.tidy_behind.2)

pub settles_joined : (b c : List ℕ) (at : ℕ) (stretch : Stretch) (size next : ℕ) → stretch.upper ≢ word b (at + 8) → stretch.low ≢ stretch.upper
    → stretch.next ≡ stretch.upper → size ≡ word b (at + (stretch.upper + 4)) → LinksTo b at (at + stretch.upper) next
    → PutsHole b c at (grown_stretch stretch size next) → Settles b c at stretch
settles_joined b c at stretch size next ne nl e es l puts end xs ys k =
    settles_joined_at b c at stretch size next end xs ys nl k (hole_behind_at b at stretch end xs ys k ne e) es l puts

settles_apart_at : (b c : List ℕ) (at : ℕ) (stretch : Stretch) (end : ℕ) (xs ys : List Segment) → stretch.upper ≢ word b (at + 8)
    → stretch.low ≢ stretch.upper → stretch.next ≢ stretch.upper → StretchBetween b at end xs ys stretch → PutsHole b c at stretch
    → Spells c at (record { segments = xs ++ with_hole (stretch.upper - stretch.low) ys; end = end })
settles_apart_at b c at stretch end xs [] nb nl nn k puts = absurd (nb (let h = k.based in omega arith))
settles_apart_at b c at stretch end xs (Hole m ∷ ys) nb nl nn k puts = absurd (nn (let h = k.has.tail.0 in omega arith))
settles_apart_at b c at stretch end xs (Used bs ∷ ys) nb nl nn k puts =
    let order = k.has.order in
    subst (λ l. Spells c at (record { segments = xs ++ l; end = end })) (sym (with_hole-used (stretch.upper - stretch.low) bs ys (omega arith)))
    (puts end xs (Used bs ∷ ys) k k.tidy_behind)

pub settles_apart : (b c : List ℕ) (at : ℕ) (stretch : Stretch) → stretch.upper ≢ word b (at + 8) → stretch.low ≢ stretch.upper
    → stretch.next ≢ stretch.upper → PutsHole b c at stretch → Settles b c at stretch
settles_apart b c at stretch nb nl nn puts end xs ys k = settles_apart_at b c at stretch end xs ys nb nl nn k puts

-- a used segment follows: the stretch ends below the base, and no hole begins at its end
pub below_block : (b : List ℕ) (at end : ℕ) (xs ys : List Segment) (stretch : Stretch) → StretchBetween b at end xs ys stretch → IsTidy true ys
    → (stretch.upper ≢ word b (at + 8)) × (stretch.next ≢ stretch.upper)
below_block b at end xs [] stretch k t = absurd t
below_block b at end xs (Hole m ∷ ys) stretch k t = absurd t
below_block b at end xs (Used bs ∷ ys) stretch k t =
    let s = k.has in
    let place = s.place in
    let order = s.order in
    let based = k.based in
    let ahead = next_range b at stretch.next (at + stretch.upper + (4 + length bs)) ys s.room_behind s.tail.2 in
    ((λ e. omega arith), (λ e. let h = ahead (omega arith) in omega arith))
