-- Checks 1 to 10: each by itself, `verdict`, the first that fires, `first_four`, the same of 1 to 4, and `Accepted`, what holds where none
-- does.
use Rattle.std.specs.Prelude.{ℕ, zero, suc, ◌+◌, ◌-◌, ◌*◌, ◌/◌, ◌%◌, ◌≤◌, ◌<◌, ◌≡◌, Bool, false, ◌&&◌, ◌||◌, not, cond, List, [], ◌↔◌, length, get_or, eqb, leb, ltb}
use Rattle.model.specs.Lists.{every, any, distinct, from, times}
use Rattle.model.specs.Bytes.{byte}
use Rattle.model.specs.Facts.{facts_of, dir_start, dir_length, N, A, S, next_file_number, free_count, blocks_in}
use Rattle.model.specs.Map.{map_entry, sort_of, is_bad, Chain, runs, blocks_free}
use Rattle.model.specs.Directory.{entry_size, directory, number_in, name_in, forks_in, block_count, fork_blocks, owned_blocks, same_name}
use Rattle.model.specs.declared.VolumeFacts.{VolumeFacts}
use Rattle.model.specs.declared.LogicalBlock.{LogicalBlock}
use Rattle.model.specs.declared.ForkFacts.{ForkFacts}

-- ---- 1 to 4: the volume information

-- 1: length not a multiple of 512, or fewer than 8 or more than 65,535 blocks
unfoldable pub fires1 : ℕ → Bool
fires1 size = not (eqb (size % 512) 0) || (ltb (size / 512) 8 || ltb 65535 (size / 512))

-- 2: signature differs
unfoldable pub fires2 : VolumeFacts → Bool
fires2 f = not (eqb f.signature 0xd2d7)

-- 3: A not a multiple of 512 from 512 to 32,768; N not 1 to 640; directory length not 1 to 256 or its start below 4; directory
-- end beyond S; S + N·A/512 beyond the image's blocks less 2; next file number 0
unfoldable pub fires3 : VolumeFacts → ℕ → Bool
fires3 f blocks =
    not (eqb (A f % 512) 0) || (ltb (A f) 512 || (ltb 32768 (A f)
    || (ltb (N f) 1 || (ltb 640 (N f)
    || (ltb (dir_length f) 1 || (ltb 256 (dir_length f) || (ltb (dir_start f).0 4
    || (ltb (S f).0 ((dir_start f).0 + dir_length f)
    || (ltb (blocks - 2) ((S f).0 + N f * A f / 512)
    || eqb (next_file_number f) 0)))))))))

-- 4: volume name longer than 27
unfoldable pub fires4 : VolumeFacts → Bool
fires4 f = ltb 27 f.name_length

-- ---- 5 to 10: e b is the entry of block b, n is N, a is A, es are the entries in directory order

-- 5: a bad map entry among the N
unfoldable pub fires5 : (ℕ → ℕ) → ℕ → Bool
fires5 e n = any (λ b. is_bad (sort_of n (e b))) (from n 2)

-- 6: an entry crosses its block, has name length 0 or version other than 0
unfoldable pub good_entry : List ℕ → Bool
good_entry e = eqb (length e) (entry_size e) && (ltb 0 (byte e 50) && eqb (byte e 1) 0)

unfoldable pub fires6 : List (List ℕ) → Bool
fires6 es = not (every good_entry es)

-- 7: entry count differs from number of files; a file number is 0, repeated, or not below the next one; two names equal
unfoldable pub good_number : ℕ → List ℕ → Bool
good_number next e = ltb 0 (number_in e) && ltb (number_in e) next

abbrev pub same_numbers : List ℕ → List ℕ → Bool
same_numbers d e = eqb (number_in d) (number_in e)

abbrev pub same_names : List ℕ → List ℕ → Bool
same_names d e = same_name (name_in d) (name_in e)

unfoldable pub fires7 : ℕ → ℕ → List (List ℕ) → Bool
fires7 files next es =
    not (eqb (length es) files && (every (good_number next) es && (distinct same_numbers es && distinct same_names es)))

-- 8: a fork with start 0 has a length above 0; or a fork with another start has physical length 0 or no multiple of A, logical
-- above physical, or no chain of exactly physical/A blocks; or two forks share a block
unfoldable pub empty_fork : ForkFacts → Bool
empty_fork g = eqb g.logical 0 && eqb g.physical 0

unfoldable pub full_fork : (ℕ → ℕ) → ℕ → ℕ → ForkFacts → Bool
full_fork e n a g =
    let r = runs e n (block_count a g) g.start.0 in
    ltb 0 g.physical && (eqb (g.physical % a) 0 && (leb g.logical g.physical && r))

unfoldable pub good_fork : (ℕ → ℕ) → ℕ → ℕ → ForkFacts → Bool
good_fork e n a g = let r = full_fork e n a g in cond (eqb g.start.0 0) (empty_fork g) r

unfoldable pub shares_none : (ℕ → ℕ) → ℕ → ℕ → List ForkFacts → Bool
shares_none e n a gs = every (λ b. leb (times b (owned_blocks e a gs)) 1) (from n 2)

unfoldable pub fires8 : (ℕ → ℕ) → ℕ → ℕ → List ForkFacts → Bool
fires8 e n a gs = let r = shares_none e n a gs in not (every (good_fork e n a) gs && r)

-- 9: a map entry above 0 belongs to no fork
unfoldable pub fires9 : (ℕ → ℕ) → ℕ → ℕ → List ForkFacts → Bool
fires9 e n a gs = any (λ b. ltb 0 (e b) && eqb (times b (owned_blocks e a gs)) 0) (from n 2)

-- 10: free count differs from the number of zero entries
unfoldable pub fires10 : (ℕ → ℕ) → ℕ → ℕ → Bool
fires10 e n free = not (eqb free (length (blocks_free e n)))

-- ---- Checks run in the order shown; the first that fires is the answer.

abbrev pub or_else : Bool → ℕ → ℕ → ℕ
or_else fires number rest = cond fires number rest

-- the first number, unless it is 0; then the second
unfoldable pub first_refusal : ℕ → ℕ → ℕ
first_refusal zero b = b
first_refusal (suc a) b = suc a

-- checks 2 to 4, and 1 to 4: those that the image's length and the volume information decide
unfoldable pub facts_number : VolumeFacts → ℕ → ℕ
facts_number f blocks = or_else (fires2 f) 2 (or_else (fires3 f blocks) 3 (or_else (fires4 f) 4 0))

unfoldable pub first_four : List ℕ → ℕ
first_four image = or_else (fires1 (length image)) 1 (facts_number (facts_of image) (blocks_in image))

-- all ten
unfoldable pub from9 : VolumeFacts → (ℕ → ℕ) → List ForkFacts → ℕ
from9 f e gs = or_else (fires9 e (N f) (A f) gs) 9 (or_else (fires10 e (N f) (free_count f)) 10 0)

unfoldable pub from8 : VolumeFacts → (ℕ → ℕ) → List ForkFacts → ℕ
from8 f e gs = or_else (fires8 e (N f) (A f) gs) 8 (from9 f e gs)

unfoldable pub from7 : VolumeFacts → (ℕ → ℕ) → List (List ℕ) → ℕ
from7 f e es = or_else (fires7 f.files (next_file_number f) es) 7 (from8 f e (forks_in es))

unfoldable pub from6 : VolumeFacts → (ℕ → ℕ) → List (List ℕ) → ℕ
from6 f e es = or_else (fires6 es) 6 (from7 f e es)

unfoldable pub from5 : VolumeFacts → List ℕ → ℕ
from5 f image = or_else (fires5 (map_entry image) (N f)) 5 (from6 f (map_entry image) (directory image))

unfoldable pub from4 : VolumeFacts → List ℕ → ℕ
from4 f image = or_else (fires4 f) 4 (from5 f image)

unfoldable pub from3 : VolumeFacts → List ℕ → ℕ
from3 f image = or_else (fires3 f (blocks_in image)) 3 (from4 f image)

unfoldable pub from2 : VolumeFacts → List ℕ → ℕ
from2 f image = or_else (fires2 f) 2 (from3 f image)

unfoldable pub verdict : List ℕ → ℕ
verdict image = or_else (fires1 (length image)) 1 (from2 (facts_of image) image)

-- ---- The same as plain facts

-- what check 3 asks, but for the next file number: a is A, n is N, start and long are the directory's start and length, s is S
pub record Layout (a n : ℕ) (start : LogicalBlock) (long : ℕ) (s : LogicalBlock) (blocks : ℕ) : Type 0 where
  -- A a multiple of 512 from 512 to 32,768
  pub multiple : a % 512 ≡ 0
  pub large : 512 ≤ a
  pub small : a ≤ 32768
  -- N 1 to 640
  pub some : 1 ≤ n
  pub most : n ≤ 640
  -- directory length 1 to 256 and its start not below 4
  pub dir_some : 1 ≤ long
  pub dir_most : long ≤ 256
  pub dir_behind : 4 ≤ start.0
  -- directory end not beyond S
  pub dir_before : start.0 + long ≤ s.0
  -- S + N·A/512 not beyond the image's blocks less 2
  pub backup : s.0 + n * a / 512 ≤ blocks - 2

-- what checks 1 to 4 ask of the facts of an image of so many bytes
pub record SoundFacts (f : VolumeFacts) (size : ℕ) : Type 0 where
  -- 1
  pub whole : size % 512 ≡ 0
  pub many : 8 ≤ size / 512
  pub few : size / 512 ≤ 65535
  -- 2
  pub signed : f.signature ≡ 0xd2d7
  -- 3
  pub layout : Layout (A f) (N f) (dir_start f) (dir_length f) (S f) (size / 512)
  pub numbered : 1 ≤ next_file_number f
  -- 4
  pub title : f.name_length ≤ 27

-- what checks 6 and 7 ask of the entries in directory order
pub record SoundEntry (next : ℕ) (e : List ℕ) : Type 0 where
  pub within : length e ≡ entry_size e
  pub titled : 1 ≤ byte e 50
  pub version : byte e 1 ≡ 0
  pub number : 1 ≤ number_in e
  pub below : number_in e < next

pub record SoundDirectory (f : VolumeFacts) (es : List (List ℕ)) : Type 0 where
  pub count : length es ≡ f.files
  pub each : (i : ℕ) → i < length es → SoundEntry (next_file_number f) (get_or es i [])
  pub numbers_differ : (i j : ℕ) → i < j → j < length es → number_in (get_or es i []) ≡ number_in (get_or es j []) → ⊥
  pub names_differ : (i j : ℕ) → i < j → j < length es → same_name (name_in (get_or es i [])) (name_in (get_or es j [])) ≡ false

-- what check 8 asks of one fork
pub record SoundFork (e : ℕ → ℕ) (n a : ℕ) (g : ForkFacts) : Type 0 where
  pub empty : g.start.0 ≡ 0 → (g.logical ≡ 0) × (g.physical ≡ 0)
  pub some : (g.start.0 ≡ 0 → ⊥) → 1 ≤ g.physical
  pub whole : (g.start.0 ≡ 0 → ⊥) → g.physical % a ≡ 0
  pub within : (g.start.0 ≡ 0 → ⊥) → g.logical ≤ g.physical
  pub chain : (g.start.0 ≡ 0 → ⊥) → Chain e n (block_count a g) g.start.0

-- the fork at place i of those in directory order, data before resource
abbrev pub fork_at : List ForkFacts → ℕ → ForkFacts
fork_at gs i = get_or gs i (record { start = record { 0 = 0 }; logical = 0; physical = 0 })

-- block b is one of the fork's
abbrev pub HasBlock : (ℕ → ℕ) → ℕ → ForkFacts → ℕ → Type 0
HasBlock e a g b = 1 ≤ times b (fork_blocks e a g)

-- what checks 5, 8, 9 and 10 ask of the map and the forks
pub record SoundMap (e : ℕ → ℕ) (n a free : ℕ) (gs : List ForkFacts) : Type 0 where
  -- 5
  pub sorted : (b : ℕ) → 2 ≤ b → b ≤ n + 1 → e b ≤ n + 1
  -- 8
  pub forks : (i : ℕ) → i < length gs → SoundFork e n a (fork_at gs i)
  pub apart : (i j b : ℕ) → i < j → j < length gs → HasBlock e a (fork_at gs i) b → HasBlock e a (fork_at gs j) b → ⊥
  -- 9
  pub owned : (b : ℕ) → 2 ≤ b → b ≤ n + 1 → 1 ≤ e b → (i : ℕ) × (i < length gs) × HasBlock e a (fork_at gs i) b
  -- 10
  pub counted : free ≡ length (blocks_free e n)

-- A volume is accepted exactly when it is well formed.
pub record Accepted (image : List ℕ) : Type 0 where
  pub facts : SoundFacts (facts_of image) (length image)
  pub files : SoundDirectory (facts_of image) (directory image)
  pub blocks : SoundMap (map_entry image) (N (facts_of image)) (A (facts_of image)) (free_count (facts_of image)) (forks_in (directory image))

unfoldable pub VerdictIsAccepted : Type 0
VerdictIsAccepted = (image : List ℕ) → (verdict image ≡ 0) ↔ Accepted image
