-- For the auditor: "disk full" is said only without room, and no block is hidden.
use Rattle.std.specs.Prelude.{ℕ, ◌+◌, ◌<◌, ◌≡◌, List, length}
use Rattle.model.specs.Facts.{facts_of, N, free_count}
use Rattle.model.specs.Directory.{fork_of}
use Rattle.model.specs.Check.{Accepted}
use Rattle.model.specs.Calls.{Answer, Does, needed_blocks, entry_named}
use Rattle.model.specs.Calls.Call.{write}
use Rattle.history.specs.History.{blocks_of, files_in}
use Rattle.model.specs.declared.Fork.{Fork}

-- A write is refused for room only when the new blocks that it needs, before rounding, exceed the free blocks; and on every accepted
-- image free blocks and all forks' blocks together are N.
unfoldable pub Room : Type 0
Room =
    ((image name : List ℕ) (fork : Fork) (offset : ℕ) (bytes : List ℕ) (changed : ℕ) (given : Answer) (left : List ℕ)
    → Accepted image → Does (write name fork offset bytes changed) image given left → given.number ≡ 17
    → free_count (facts_of image) < needed_blocks (facts_of image) (fork_of fork (entry_named name image)) offset (length bytes))
    × ((image : List ℕ) → Accepted image → free_count (facts_of image) + blocks_of (files_in image) ≡ N (facts_of image))
