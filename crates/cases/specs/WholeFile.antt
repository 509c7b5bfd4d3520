-- A whole wrapped file (document 02, T-02), every byte computed: what a create leaves.
use Rattle.std.specs.Prelude.{ℕ, ◌≡◌, List, ◌∷◌, ◌++◌, replicate}
use Rattle.model.specs.Bytes.{bytes16, bytes32, zeros}
use Rattle.model.specs.Calls.Call.{create}
use Rattle.model.specs.Wrapped.{file_after}
use Rattle.model.specs.Cases.{NEWS, info800, head_of, news_entry, sample, with_bytes}

-- an 800-block volume without files; the checksum of its bytes is 0336EED7 hex
unfoldable pub empty800 : List ℕ
empty800 = zeros 1024 ++ (info800 391 ++ zeros 408512)

-- and with the file NEWS
unfoldable pub news800 : List ℕ
news800 = with_bytes 1036 (bytes16 1) (with_bytes 1054 (bytes32 2) (with_bytes 2048 (news_entry 1 0) empty800))

-- a header by the name HALL, with bytes behind the name, format byte 12 hex, this data checksum, and a tag checksum
unfoldable pub head_for : ℕ → List ℕ
head_for sum = head_of 4 (72 ∷ 65 ∷ 76 ∷ 76 ∷ replicate 59 0xaa) 409600 9600 sum 0x7bdca764 0 0x12 0x100

-- an image wrapped by it, with tags
unfoldable pub tagged : ℕ → List ℕ → List ℕ
tagged sum image = head_for sum ++ (image ++ sample 0 9600)

-- a create: the data checksum is renewed, and the rest of the header and the tags stay
unfoldable pub WholeFile : Type 0
WholeFile = file_after (create NEWS (zeros 16) 7 8) (tagged 0x0336eed7 empty800) ≡ tagged 0x04f876cd news800
