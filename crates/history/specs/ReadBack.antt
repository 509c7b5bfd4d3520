-- For the auditor: a read after a write of n bytes at o gives those n bytes.
use Rattle.std.specs.Prelude.{ℕ, ◌≡◌, List, length}
use Rattle.model.specs.Check.{Accepted}
use Rattle.model.specs.Calls.{Answer, Does}
use Rattle.model.specs.Calls.Call.{read, write}
use Rattle.model.specs.declared.Fork.{Fork}

unfoldable pub ReadBack : Type 0
ReadBack =
    (image name : List ℕ) (fork : Fork) (o : ℕ) (bytes : List ℕ) (changed : ℕ) (written : Answer) (between : List ℕ) → Accepted image
    → Does (write name fork o bytes changed) image written between → written.number ≡ 0
    → (buffer : List ℕ) (given : Answer) (left : List ℕ) → Does (read name fork o buffer) between given left → length buffer ≡ length bytes
    → (given.number ≡ 0) × (given.count ≡ length bytes) × (given.buffer ≡ bytes)
