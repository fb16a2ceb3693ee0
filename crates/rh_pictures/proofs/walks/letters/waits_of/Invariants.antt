use Rattle.rh_pictures.proofs.Common.{◌≡◌, length, take, filter, map, min}
use Rattle.rh_pictures.specs.Inner.LettersBehind.{entry_seen}
use Rattle.rh_figure.specs.declared.limits.TheConstants.{MOST_LISTED}
use Rattle.rh_scene.specs.SightMessages.{waits_for}
use Rattle.rh_pictures.proofs.walks.letters.waits_of.Given as goal

-- those so far are counted, and the first of them are kept
abbrev pub invariant-loop-message : goal.invariant-loop-message
invariant-loop-message l = record {
  room : length l.waits.first ≡ MOST_LISTED;
  count : l.waits.count ≡ length (map entry_seen (filter (waits_for l.handle) (take l.message-index l.messages)));
  first : take (min l.waits.count MOST_LISTED) l.waits.first ≡ take MOST_LISTED
      (map entry_seen (filter (waits_for l.handle) (take l.message-index l.messages)));
}
