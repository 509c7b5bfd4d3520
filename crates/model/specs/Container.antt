-- Wrapped images (document 02, T-02): the Disk Copy 4.2 file with its header, data and tags; the checksum; refusals 22 to 24, and
-- the same as plain facts; what a change leaves; a bare image wrapped.
use Rattle.std.specs.Prelude.{ℕ, ◌+◌, ◌-◌, ◌*◌, ◌/◌, ◌%◌, ◌^◌, ◌≤◌, ◌≡◌, Bool, ◌||◌, not, List, [], ◌∷◌, ◌++◌, ◌↔◌, ◌⊎◌, length, take, drop, eqb, ltb}
use Rattle.std.proofs.lemmas.List.Edits.{sets}
use Rattle.model.specs.Bytes.{byte, be16, be32, bytes16, bytes32, zeros, part}
use Rattle.model.specs.Check.{or_else}

-- ---- The parts of a file

-- The header is 84 bytes. Data are 409,600 bytes; tags are 0 or 9,600 bytes behind them.
unfoldable pub inside : List ℕ → List ℕ
inside file = part 84 409600 file

unfoldable pub tags : List ℕ → List ℕ
tags file = drop 409684 file

-- Data size at 64, tag size at 68, data and tag checksums at 72 and 76.
abbrev pub data_size : List ℕ → ℕ
data_size file = be32 file 64

abbrev pub tag_size : List ℕ → ℕ
tag_size file = be32 file 68

abbrev pub data_sum : List ℕ → ℕ
data_sum file = be32 file 72

abbrev pub tag_sum : List ℕ → ℕ
tag_sum file = be32 file 76

-- ---- The checksum

-- the sum turned right by one bit: its lowest bit becomes the highest of 32
unfoldable pub turned : ℕ → ℕ
turned sum = sum / 2 + sum % 2 * 2147483648

-- a word added to a 32-bit sum that wraps, and the sum turned right by one bit
unfoldable pub added : ℕ → ℕ → ℕ
added sum word = turned ((sum + word) % 2 ^ 32)

-- each big-endian 16-bit word added in turn; data and tags are whole words, and no byte is left over
unfoldable pub summed : ℕ → List ℕ → ℕ
summed sum [] = sum
summed sum (high ∷ []) = sum
summed sum (high ∷ low ∷ rest) = summed (added sum (high * 256 + low)) rest

-- From 0, a checksum adds each big-endian 16-bit word to a 32-bit sum that wraps, and turns the sum right by one bit each time.
unfoldable pub checksum : List ℕ → ℕ
checksum bytes = summed 0 bytes

-- The tag sum leaves out the first 12 bytes and is 0 without tags.
unfoldable pub tag_checksum : List ℕ → ℕ
tag_checksum behind = checksum (drop 12 behind)

-- ---- Refusals 22 to 24

-- of 22: tags of 0 or 9,600 bytes, and a file as long as header, data and tags: 409,684 or 419,284 bytes
unfoldable pub bad_size : ℕ → ℕ → Bool
bad_size size tag = not (eqb tag 0 || eqb tag 9600) || not (eqb size (409684 + tag))

-- a length or header unlike this: name of up to 63 after its length byte; data size 409,600; encoding 0 at 80; 0100 hex at 82. The
-- rest of the name's field and the format byte at 81 are carried.
abbrev pub bad_header : ℕ → List ℕ → Bool
bad_header size header =
    bad_size size (tag_size header) || (ltb 63 (byte header 0) || (not (eqb (data_size header) 409600)
    || (not (eqb (byte header 80) 0) || not (eqb (be16 header 82) 0x100))))

-- 22: a file length or header unlike this
unfoldable pub fires22 : List ℕ → Bool
fires22 file = bad_header (length file) file

-- 23: data checksum
unfoldable pub fires23 : List ℕ → Bool
fires23 file = not (eqb (data_sum file) (checksum (inside file)))

-- 24: tag checksum
unfoldable pub fires24 : List ℕ → Bool
fires24 file = not (eqb (tag_sum file) (tag_checksum (tags file)))

-- in that order: the first that fires, or 0
unfoldable pub container_verdict : List ℕ → ℕ
container_verdict file = or_else (fires22 file) 22 (or_else (fires23 file) 23 (or_else (fires24 file) 24 0))

-- ---- The same as plain facts

-- what 22 asks
pub record SoundHeader (file : List ℕ) : Type 0 where
  pub few : (tag_size file ≡ 0) ⊎ (tag_size file ≡ 9600)
  pub long : length file ≡ 409684 + tag_size file
  pub titled : byte file 0 ≤ 63
  pub whole : data_size file ≡ 409600
  pub encoded : byte file 80 ≡ 0
  pub marked : be16 file 82 ≡ 0x100

-- and with it 23 and 24
pub record SoundContainer (file : List ℕ) : Type 0 where
  pub header : SoundHeader file
  pub summed : data_sum file ≡ checksum (inside file)
  pub tagged : tag_sum file ≡ tag_checksum (tags file)

unfoldable pub ContainerIsSound : Type 0
ContainerIsSound = (file : List ℕ) → (container_verdict file ≡ 0) ↔ SoundContainer file

-- ---- A change

-- the file with these data between its header and its tags
unfoldable pub with_data : List ℕ → List ℕ → List ℕ
with_data file content = take 84 file ++ (content ++ tags file)

-- A change also renews the data checksum, and no other byte outside the data changes.
unfoldable pub renewed : List ℕ → List ℕ → List ℕ
renewed file content = sets (with_data file content) 72 (bytes32 (checksum content))

-- ---- A bare image wrapped

-- 22: in wrapping an image, buffer or name of wrong length
unfoldable pub bad_lengths : ℕ → ℕ → ℕ → Bool
bad_lengths image buffer name = not (eqb image 409600) || (not (eqb buffer 409684) || ltb 63 name)

-- behind the name's field: data size, tag size, data and tag checksums, encoding 0, format byte, 0100 hex
unfoldable pub fixed_fields : ℕ → ℕ → List ℕ
fixed_fields format sum = bytes32 409600 ++ (bytes32 0 ++ (bytes32 sum ++ (bytes32 0 ++ (0 ∷ format ∷ bytes16 0x100))))

-- Wrapping an accepted image takes name and format byte as given, fills the name field with zeros
unfoldable pub header_for : List ℕ → ℕ → ℕ → List ℕ
header_for name format sum = length name ∷ (name ++ (zeros (63 - length name) ++ fixed_fields format sum))

-- and adds no tags.
unfoldable pub wrapping : List ℕ → List ℕ → ℕ → List ℕ
wrapping image name format = header_for name format (checksum image) ++ image
