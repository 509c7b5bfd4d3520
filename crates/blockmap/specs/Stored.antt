-- Two entries stored.
use Rattle.std.specs.Prelude.{ℕ, ◌+◌, List, set}
use Rattle.model.specs.Map.{bytes_for}
use Rattle.model.specs.declared.TwoEntries.{TwoEntries}

-- the image with the three bytes for two entries in the place of those from byte `at` on
abbrev pub put_pair : List ℕ → ℕ → TwoEntries → List ℕ
put_pair image at e = set (set (set image at (bytes_for e).ab) (at + 1) (bytes_for e).cd) (at + 2) (bytes_for e).ef
