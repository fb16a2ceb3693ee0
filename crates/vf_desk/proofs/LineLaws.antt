-- Lines on a desk that is open, and on one that isn't.
use Rattle.vf_desk.proofs.Common.{◌≡◌, ℕ, Bool, true, false, List, length, Option, Some, None, refl, sym, ap, subst, ◌∙◌, nat_le, if◌then◌else◌, Console}
use Rattle.vf_desk.proofs.Common.{Desk, OpenDesk, TakesLine, SeenBy, console_in, closed_status}
use Rattle.vf_desk.specs.Console.{Prints}
use Rattle.vf_desk.specs.Said.{said_text}
use Rattle.rh_defs.specs.Order.{IsReordered}
use Rattle.rh_defs.specs.Script.{line_desk, line_text}
use Rattle.vf_desk.specs.DeskLines.{Fills, Replies, desk_after, kept_text, line_status}
use Rattle.vf_desk.specs.SeenDesk.{files_in}
use Rattle.vf_desk.specs.DeskStatus.{short}

-- a line on a desk that isn't open
takes_none : (line : List ℕ) (console : Option Console) → console ≡ None → (held : Option OpenDesk) → console_in held ≡ console
    → TakesLine line held held closed_status
takes_none line console none held is = record {
  status_is = λ s seen. status s (unseen s seen);
  desk = λ s seen. after s seen (unseen s seen);
  kept = λ d seen. absurd (unseen (Some d) seen);
  files = refl;
  refused = λ _. refl;
}
  where
    unseen : (s : Option Desk) → SeenBy (console_in held) s → SeenBy None s
    unseen s seen = subst (λ c. SeenBy c s) (is ∙ none) seen

    status : (s : Option Desk) → SeenBy None s → closed_status ≡ line_status s
    status None seen = refl
    status (Some d) seen = absurd seen

    after : (s : Option Desk) → SeenBy (console_in held) s → SeenBy None s → SeenBy (console_in held) (desk_after s line)
    after None seen _ = seen
    after (Some d) seen shut = absurd shut

pub takes-closed : {line : List ℕ} {held : Option OpenDesk} → console_in held ≡ None → TakesLine line held held closed_status
takes-closed {line} {held} none = takes_none line None refl held none

-- a line that the console has taken
pub takes-open : {line : List ℕ} (old new : Option OpenDesk) (console now : Console) → console_in old ≡ Some console → console_in new ≡ Some now
    → files_in new ≡ files_in old
    → ((d : Desk) → IsReordered d console.world.desk → IsReordered (line_desk d line) now.world.desk)
    → ((d : Desk) → IsReordered d console.world.desk → said_text (line_desk d line) now.said ≡ line_text d line)
    → TakesLine line old new 0
takes-open {line} old new console now was_open after files desk said = record {
  status_is = λ s seen. status s (was s seen);
  desk = λ s seen. subst (λ c. SeenBy c (desk_after s line)) (sym after) (seen_after s (was s seen));
  kept = λ d seen. ap (λ c. kept_text c (line_desk d line)) after ∙ said d (was (Some d) seen);
  files = files;
  refused = λ bad. absurd (bad refl);
}
  where
    was : (s : Option Desk) → SeenBy (console_in old) s → SeenBy (Some console) s
    was s seen = subst (λ c. SeenBy c s) was_open seen

    status : (s : Option Desk) → SeenBy (Some console) s → 0 ≡ line_status s
    status None seen = absurd seen
    status (Some d) seen = refl

    seen_after : (s : Option Desk) → SeenBy (Some console) s → SeenBy (Some now) (desk_after s line)
    seen_after None seen = absurd seen
    seen_after (Some d) seen = desk d seen

-- ---- a text in lent bytes

-- a text that had room, and its length
pub fills-some : {text lent bytes : List ℕ} {was n : ℕ} → Prints text lent bytes (Some n) → Fills text lent bytes was n 0
fills-some {text} {lent} {bytes} {was} {n} prints = go (nat_le (length text) (length lent)) refl
  where
    same : {x y : ℕ} → ◌≡◌ {A = Option ℕ} (Some x) (Some y) → x ≡ y
    same e = cc

    go : (b : Bool) → nat_le (length text) (length lent) ≡ b → Fills text lent bytes was n 0
    go true low = record {
      bytes_are = prints.bytes;
      length_is = same (prints.length_is ∙ ap (λ b. if b then Some (length text) else None) low) ∙ sym (ap (λ b. if b then length text else was) low);
      status_is = sym (ap (λ b. if b then 0 else short) low);
    }
    go false low =
        let none : ◌≡◌ {A = Option ℕ} (Some n) None = prints.length_is ∙ ap (λ b. if b then Some (length text) else None) low in
        absurd (cc)

-- a text that had none
pub fills-none : {text lent bytes : List ℕ} {was : ℕ} → Prints text lent bytes None → Fills text lent bytes was was short
fills-none {text} {lent} {bytes} {was} prints = go (nat_le (length text) (length lent)) refl
  where
    go : (b : Bool) → nat_le (length text) (length lent) ≡ b → Fills text lent bytes was was short
    go true low =
        let some : ◌≡◌ {A = Option ℕ} None (Some (length text)) = prints.length_is ∙ ap (λ b. if b then Some (length text) else None) low in
        absurd (cc)
    go false low = record {
      bytes_are = prints.bytes;
      length_is = sym (ap (λ b. if b then length text else was) low);
      status_is = sym (ap (λ b. if b then 0 else short) low);
    }

-- ---- the reply that is kept

pub replies-open : {held : Option OpenDesk} {console : Console} {before after : List ℕ} {was now status : ℕ} → console_in held ≡ Some console
    → ((d : Desk) → IsReordered d console.world.desk → Fills (said_text d console.said) before after was now status)
    → Replies held before after was now status
replies-open {held} {console} {before} {after} {was} {now} {status} is fills = record {
  fills = λ d seen. subst (λ h. Fills (kept_text h d) before after was now status) (sym is) (fills d (subst (λ h. SeenBy h (Some d)) is seen));
  stays = λ seen. absurd (subst (λ h. SeenBy h None) is seen);
}

pub replies-closed : {held : Option OpenDesk} {before : List ℕ} {was : ℕ} → console_in held ≡ None → Replies held before before was was closed_status
replies-closed is = record {
  fills = λ d seen. absurd (subst (λ h. SeenBy h (Some d)) is seen);
  stays = λ _. record { status_is = refl; bytes = refl; length_is = refl };
}
