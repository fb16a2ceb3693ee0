-- The kinds of words: how each is written in a form, and what one of the kind is.
use Rattle.std.specs.Prelude.{ℕ, List, codes}
use Rattle.rh_explained.specs.declared.word_kind.WordKind.{WordKind}
use Rattle.rh_explained.specs.declared.word_kind.WordKind.TheVariants.{NewName, TaskName, FileName, Anchor, Buffer, Size, Offset, Amount, AreaNumber, MadeNumber, MostPages, Id, Address, Bytes, Leaf, Manner, Direction, Switch, RmaWord, Code, Handle, AnsweredRef, ActionNumber, Data}

-- what a word of the kind has to be
abbrev pub expected : WordKind → List ℕ
expected NewName = codes "a name is a letter, then up to 11 letters or digits"
expected TaskName = codes "a name is a letter, then up to 11 letters or digits"
expected FileName = codes "a name is a letter, then up to 11 letters or digits"
expected Anchor = codes "an anchor is 0 to 63"
expected Buffer = codes "a receive buffer has 1 to 65536 bytes"
expected Size = codes "a size is 0 to 2147483647"
expected Offset = codes "an offset is 0 to 2147483647"
expected Amount = codes "an amount is 0 to 2147483647, with - before it or not"
expected AreaNumber = codes "an area is 0 to 65535"
expected MadeNumber = codes "a made area is 256 to 65535"
expected MostPages = codes "the most pages of an area are 1 to 1024"
expected Id = codes "an id is 1 to 4294967295"
expected Address = codes "an address is & and 1 to 8 hexadecimal digits"
expected Bytes = codes "bytes are hexadecimal digits, two for each"
expected Leaf = codes "a leafname has 1 to 10 characters"
expected Manner = codes "this word is deaf, file or raw, or left out"
expected Direction = codes "this word is in or out"
expected Switch = codes "this word is on or off"
expected RmaWord = codes "this word is claim, free or resize"
expected Code = codes "this word is 17 or 18"
expected Handle = codes "a handle is 1 to 4294967295"
expected AnsweredRef = codes "a ref is 0 to 4294967295, and 0 answers nothing"
expected ActionNumber = codes "an action is 0 to 4294967295"
expected Data = codes "data are hexadecimal digits, eight for each word, or left out"
