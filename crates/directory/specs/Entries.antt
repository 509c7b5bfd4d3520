-- What the iterator over a directory's entries gives.
use Rattle.std.specs.Prelude.{◌≡◌, [], Option, Some, None}
use Rattle.std.specs.Iterator.{Count, at_most}
use Rattle.directory.specs.declared.EntryAt.{EntryAt}
use Rattle.directory.specs.declared.iterator.Entries.{Entries}
use Rattle.directory.specs.Cursor.{rest_of, ahead, Advances}

-- the next entry, and the iterator behind it
abbrev pub Reads : Entries → Option EntryAt → Entries → Type 0
Reads s (Some e) t = (t.image.now ≡ s.image.now) × Advances s.image.now s.cursor e t.cursor
Reads s None t = rest_of s.image.now s.cursor ≡ []

abbrev pub left : Entries → Count
left s = at_most (ahead s.cursor)
