use Rattle.rh_wimp.proofs.Common.{◌≡◌, ℕ, ◌+◌, length, length-append, take, drop, replicate, ◌≤◌, ◌++◌, List, sym, ap, subst, ◌∙◌, arith, Ok, append_assoc}
use Rattle.rh_wimp.proofs.Common.{length-take, LONGEST_MESSAGE, module_claim, module_heap_in, word_bytes, code_number, encoded, parcel_size, Turns, has-less}
use Rattle.rh_wimp.proofs.Common.{length-word_bytes, poked}
use Rattle.std.proofs.Common.{length-drop}
use Rattle.rh_defs.proofs.BytesLaws.{length-put}
use Rattle.rh_defs.specs.Post.{message_of}
use Rattle.rh_wimp.proofs.CallLaws.{Claimed, claimed, claimed-block, parcel_bytes, parcel_head, placed-there}
use Rattle.rh_wimp.proofs.placing.place.Goals as goal
use Rattle.rh_wimp.proofs.placing.place.Goals.{In_ok-block}
use Rattle.rh_wimp.proofs.placing.place.Given as given
use borrow.Rule.Slice.PartMut.{put_mid}

took : (g : given.Over) (c : In_ok-block g)
    → Claimed (g.S.Words.memory c.args.store.now) (g.S.Words.memory c.claim.new.store) c.args.module_area (8 + c.encode_letter-length.result)
    c.in_ok-block.block
took g c = claimed (g.S.Words.memory c.args.store.now) (g.S.Words.memory c.claim.new.store) c.args.module_area
    (8 + c.encode_letter-length.result) c.in_ok-block.block
    c.in_ok-block.ensures

pub write_bytes-requires-clause-block : goal.write_bytes-requires-clause-block
write_bytes-requires-clause-block g c =
    let n : ℕ = 8 + c.encode_letter-length.result in
    let parcel : List ℕ = put_mid 8 LONGEST_MESSAGE c.put_word.new.out c.encode_letter-length.new.out in
    let l = length-take n parcel in
    has-less c.in_ok-block.block n (0 + length (take n parcel)) (module_heap_in (g.S.Words.memory c.claim.new.store) c.args.module_area) (omega arith)
    (claimed-block (g.S.Words.memory c.args.store.now) (g.S.Words.memory c.claim.new.store) c.args.module_area n c.in_ok-block.block
    (took g (goal.at.write_bytes-requires-clause-block g c).In_ok-block))

pub returns-clause-placed : goal.returns-clause-placed
returns-clause-placed g c =
    let n : ℕ = c.encode_letter-length.result in
    let code : ℕ = c.number.result in
    let size : 8 + n ≡ parcel_size (message_of c.args.letter.now c.args.my_ref) = ap (λ n. 8 + n) c.encode_letter-length.ensures.length in
    let head = parcel_head code c.put_word.new.out c.put_word.ensures in
    let eight : length (take 8 c.put_word.new.out) ≡ 8 =
    ap length head ∙ omega (arith, length-word_bytes 0, length-word_bytes code, length-append (word_bytes 0) (word_bytes code)) in
    let p : List ℕ = c.put_word.new.out in
    let whole : length p ≡ 264 = ap length c.put_word.ensures ∙ length-put (replicate 264 0) 4 (word_bytes code) in
    let room : n ≤ length (take LONGEST_MESSAGE (drop 8 p)) =
    omega (arith, c.encode_letter-length.ensures.short, length-take LONGEST_MESSAGE (drop 8 p), length-drop 8 p) in
    let parcel : List ℕ = take (8 + n) (put_mid 8 LONGEST_MESSAGE c.put_word.new.out c.encode_letter-length.new.out) in
    let there : parcel ≡ word_bytes 0 ++ (word_bytes (code_number c.args.letter.now.code) ++ encoded (message_of c.args.letter.now c.args.my_ref)) =
    parcel_bytes (take LONGEST_MESSAGE (drop 8 p)) _ _ (message_of c.args.letter.now c.args.my_ref) n c.encode_letter-length.new.out eight
    c.encode_letter-length.ensures.length room
    c.encode_letter-length.ensures.bytes
    ∙ ap (λ h. h ++ encoded (message_of c.args.letter.now c.args.my_ref)) head
    ∙ append_assoc (word_bytes 0) (word_bytes code) (encoded (message_of c.args.letter.now c.args.my_ref))
    ∙ ap (λ i. word_bytes 0 ++ (word_bytes i ++ encoded (message_of c.args.letter.now c.args.my_ref))) c.number.ensures in
    let done = placed-there (g.S.Words.memory c.args.store.now) (g.S.Words.memory c.claim.new.store)
    (g.S.Words.memory c.write_bytes.new.store) c.args.module_area
    (8 + n) c.in_ok-block.block parcel
    (took g (goal.at.returns-clause-placed g c).In_ok-block) c.write_bytes.ensures in
    λ h e.
    subst (λ l. Turns (g.S.Words.memory c.args.store.now) (g.S.Words.memory c.write_bytes.new.store) c.args.module_area (poked h.1 0 l h.0)) there
    (done h (subst (λ k. module_claim (g.S.Words.memory c.args.store.now).free k (module_heap_in (g.S.Words.memory c.args.store.now) c.args.module_area) ≡ Ok h)
    (sym size) e))
