-- The history, which knows no image, map or directory block; how it follows each call; how an image reads as facts and files;
-- what must hold after each event of a run; and the claim on every run.
use Rattle.std.specs.Prelude.{ℕ, ◌+◌, ◌-◌, ◌*◌, ◌≤◌, ◌<◌, max, ◌≡◌, Bool, true, false, ◌&&◌, ◌||◌, not, cond, List, [], ◌∷◌, ◌++◌, map, ◌↔◌, length, get_or, take, eqb, leb}
use Rattle.model.specs.Lists.{any, keep, first, Reordered, times}
use Rattle.model.specs.Bytes.{byte, be32, half, Within, overwritten, Bytes}
use Rattle.model.specs.Facts.{facts_of, dir_start, dir_length, N, A, S, clump, next_file_number, free_count, is_locked, block_byte, with_counts, no_facts}
use Rattle.model.specs.Map.{map_entry}
use Rattle.model.specs.Directory.{directory, number_in, name_in, finder_in, fork_of, wide, no_entry, flags_lock, block_count, fork_blocks, same_name}
use Rattle.model.specs.Check.{Accepted}
use Rattle.model.specs.Calls.{Call, Known, fewest, bad_name, refuses, name_of, fork_given, entry_named, fork_bytes, read_count, copied, Answer, lent, Does}
use Rattle.model.specs.Calls.Call.{check, entry, find, block, read, create, write, cut, delete, wrap, rename, quick_find}
use Rattle.model.specs.declared.LogicalBlock.{LogicalBlock}
use Rattle.model.specs.declared.VolumeFacts.{VolumeFacts}
use Rattle.model.specs.declared.DirectoryEntry.{DirectoryEntry}
use Rattle.model.specs.declared.ForkFacts.{ForkFacts}
use Rattle.model.specs.declared.Fork.{Fork}
use Rattle.model.specs.declared.Fork.TheVariants.{Data, Resource}

-- ---- Its state

-- each fork's bytes and count of blocks
pub record Held : Type 0 where
  pub bytes : List ℕ
  pub count : ℕ

-- for each file, its number, name, flags, Finder bytes and dates, and its forks
pub record File : Type 0 where
  pub number : ℕ
  pub name : List ℕ
  pub flags : ℕ
  pub finder : List ℕ
  pub created : ℕ
  pub changed : ℕ
  pub content : Held
  pub resource : Held

-- It holds the facts and the files.
pub record History : Type 0 where
  pub facts : VolumeFacts
  pub files : List File

unfoldable pub empty : Held
empty = record { bytes = []; count = 0 }

unfoldable pub no_file : File
no_file = record { number = 0; name = []; flags = 0; finder = []; created = 0; changed = 0; content = empty; resource = empty }

unfoldable pub held_of : Fork → File → Held
held_of Data x = x.content
held_of Resource x = x.resource

unfoldable pub blocks_of : List File → ℕ
blocks_of [] = 0
blocks_of (x ∷ xs) = x.content.count + x.resource.count + blocks_of xs

-- the free blocks are all blocks less those that it gives to forks
unfoldable pub free_of : History → ℕ
free_of h = N h.facts - blocks_of h.files

-- the facts, the number of files being the count of its files, and the free blocks these
unfoldable pub facts_now : History → VolumeFacts
facts_now h = with_counts h.facts (length h.files) (next_file_number h.facts) (free_of h)

-- ---- Its refusals

unfoldable pub called : List ℕ → File → Bool
called name x = same_name name x.name

unfoldable pub file_called : List ℕ → History → File
file_called name h = first (called name) no_file h.files

-- All refusals but 1 to 10 and wrap's 22 it decides by the table and its order, from the arguments and what it holds, and it is fed
-- whether the answer is 18.
unfoldable pub known_to : History → Bool → List ℕ → Fork → Known
known_to h full name fork =
    let x = file_called name h in
    record {
      locked = is_locked h.facts;
      files = length h.files;
      exists = any (called name) h.files;
      file_locked = flags_lock x.flags;
      logical = length (held_of fork x).bytes;
      blocks = (held_of fork x).count;
      size = A h.facts;
      free = free_of h;
      next = next_file_number h.facts;
      full = full;
      another = λ new. any (called new) (keep (λ x. not (called name x)) h.files);
      crowded = λ new. full;
      quick = any (called name) h.files;
    }

unfoldable pub declines : History → Bool → Call → ℕ
declines h full call = refuses call (known_to h full (name_of call) (fork_given call))

-- ---- Its steps

-- Create adds a file with the next number, flags 80 hex, what is given, and no fork bytes or blocks.
unfoldable pub new_file : ℕ → List ℕ → List ℕ → ℕ → ℕ → File
new_file number name finder created changed = record {
  number = number;
  name = name;
  flags = 0x80;
  finder = finder;
  created = created;
  changed = changed;
  content = empty;
  resource = empty;
}

-- Write: the fewest blocks of a bytes that hold all
abbrev pub holding : ℕ → ℕ → List ℕ → Held → ℕ
holding a o xs g = fewest (length (overwritten g.bytes o xs)) a

-- The rise of the count to the larger of itself and these is the new blocks needed: 17 asks for it, before rounding.
unfoldable pub rise : ℕ → ℕ → List ℕ → Held → ℕ
rise a o xs g = max g.count (holding a o xs g) - g.count

-- The history counts the rounded blocks (document 02, T-07): a count below the fewest becomes these, rounded up to whole clumps of c
-- blocks if enough are free for that.
unfoldable pub count_after : ℕ → ℕ → ℕ → ℕ → ℕ
count_after c free count least =
    let whole = fewest least c * c in
    cond (leb least count) count (cond (leb whole (count + free)) whole least)

-- Write keeps the bytes before o, puts the n given, keeps those from o+n on.
unfoldable pub writes : ℕ → ℕ → ℕ → ℕ → List ℕ → Held → Held
writes a c free o xs g = record { bytes = overwritten g.bytes o xs; count = count_after c free g.count (holding a o xs g) }

-- Cut keeps the first n bytes and the fewest blocks for them.
unfoldable pub cuts : ℕ → ℕ → Held → Held
cuts a n g = record { bytes = take n g.bytes; count = fewest n a }

-- f of the data fork, or of the resource fork, where that is the one given
abbrev pub of_data : Fork → (Held → Held) → Held → Held
of_data Data f g = f g
of_data Resource f g = g

abbrev pub of_resource : Fork → (Held → Held) → Held → Held
of_resource Data f g = g
of_resource Resource f g = f g

-- Both set the change date.
unfoldable pub changed_fork : Fork → (Held → Held) → ℕ → File → File
changed_fork fork f date x = record {
  number = x.number;
  name = x.name;
  flags = x.flags;
  finder = x.finder;
  created = x.created;
  changed = date;
  content = of_data fork f x.content;
  resource = of_resource fork f x.resource;
}

-- A rename is one step (document 02, T-05): the name and the change date of that file.
unfoldable pub retitled_file : List ℕ → ℕ → File → File
retitled_file new changed x = record {
  number = x.number;
  name = new;
  flags = x.flags;
  finder = x.finder;
  created = x.created;
  changed = changed;
  content = x.content;
  resource = x.resource;
}

unfoldable pub on_called : List ℕ → (File → File) → File → File
on_called name f x = cond (called name x) (f x) x

-- ---- What it tells

-- equal in an answer: the number given back, what is told of facts and files, and read's count and bytes
pub record Told : Type 0 where
  pub number : ℕ
  pub facts : VolumeFacts
  pub entry : DirectoryEntry
  pub count : ℕ
  pub buffer : List ℕ

-- Places and block numbers are demand 2's: a fork's fields without its start.
unfoldable pub unplaced : ForkFacts → ForkFacts
unplaced g = record { start = record { 0 = 0 }; logical = g.logical; physical = g.physical }

unfoldable pub without_starts : DirectoryEntry → DirectoryEntry
without_starts e = record {
  flags = e.flags;
  version = e.version;
  finder = e.finder;
  number = e.number;
  «data» = unplaced e.«data»;
  resource = unplaced e.resource;
  created = e.created;
  changed = e.changed;
  name_length = e.name_length;
  name = e.name;
}

unfoldable pub told_by : Answer → Told
told_by r = record {
  number = r.number;
  facts = r.facts;
  entry = without_starts r.entry;
  count = r.count;
  buffer = r.buffer;
}

-- a held fork's fields, in blocks of a bytes
unfoldable pub lengths_of : ℕ → Held → ForkFacts
lengths_of a g = record { start = record { 0 = 0 }; logical = length g.bytes; physical = g.count * a }

unfoldable pub entry_of : ℕ → File → DirectoryEntry
entry_of a x = record {
  flags = x.flags;
  version = 0;
  finder = x.finder;
  number = x.number;
  «data» = lengths_of a x.content;
  resource = lengths_of a x.resource;
  created = x.created;
  changed = x.changed;
  name_length = length x.name;
  name = wide x.name;
}

unfoldable pub told_only : ℕ → List ℕ → Told
told_only number buffer = record { number = number; facts = no_facts; entry = no_entry; count = 0; buffer = buffer }

-- the file with that number
unfoldable pub file_numbered : ℕ → History → File
file_numbered n h = first (λ x. eqb x.number n) no_file h.files

-- ---- What 17 asks

-- a write passes the checks before 17, and needs more new blocks than are free
pub record NoRoom (h : History) (name : List ℕ) (fork : Fork) (offset : ℕ) (bytes : List ℕ) : Type 0 where
  pub unlocked : is_locked h.facts ≡ false
  pub titled : bad_name name ≡ false
  pub there : any (called name) h.files ≡ true
  pub writable : flags_lock (file_called name h).flags ≡ false
  pub within : offset ≤ length (held_of fork (file_called name h)).bytes
  pub exceeds : free_of h < rise (A h.facts) offset bytes (held_of fork (file_called name h))

-- ---- How each call is followed

-- one clause for each call in `following`: what the history does and tells where the call is not refused, what the claim on every
-- run asks of the image, and what the auditor asks
pub record Following : Type 1 where
  -- its step
  pub moves : History → History
  -- what it tells; the number is that of the file that the image's reading has at the place asked
  pub says : History → ℕ → Told
  -- that number
  pub asked : List ℕ → ℕ
  -- whether its answer is compared
  pub compared : Bool
  -- whether the call may change the image, the blocks that an image gives to the fork that it names (for a delete, to both
  -- forks), and how many directory blocks may differ
  pub changes : Bool
  pub blocks : List ℕ → List ℕ
  pub directories : ℕ
  -- when its number is 17
  pub room : History → ℕ → Type 0
  -- for the auditor: whether it may change the file of a name, and the dates that it gives to a file that it touched; `was` says which
  -- files were there before
  pub touches : List ℕ → Bool
  pub dates : (File → Type 0) → File → Type 0

-- the blocks that an image gives to the named fork
unfoldable pub blocks_named : List ℕ → List ℕ → Fork → List ℕ
blocks_named image name fork = fork_blocks (map_entry image) (A (facts_of image)) (fork_of fork (entry_named name image))

-- no call but a write gets 17
abbrev never17 : History → ℕ → Type 0
never17 h number = number ≡ 17 → ⊥

-- no file is changed
abbrev nothing : List ℕ → Bool
nothing name = false

-- no file gets a date
abbrev no_dates : (File → Type 0) → File → Type 0
no_dates was x = ⊥

-- Check, entry, find, block and read change nothing. They differ in what is told, and entry in that a place is asked.
abbrev reads : (History → ℕ → Told) → (List ℕ → ℕ) → Following
reads says asked = record {
  moves = λ h. h;
  says = says;
  asked = asked;
  compared = true;
  changes = false;
  blocks = λ image. [];
  directories = 0;
  room = never17;
  touches = nothing;
  dates = no_dates;
}

-- a call that changes nothing and whose answer is not compared
abbrev stands : Following
stands = record {
  moves = λ h. h;
  says = λ h n. told_only 0 [];
  asked = λ image. 0;
  compared = false;
  changes = false;
  blocks = λ image. [];
  directories = 0;
  room = never17;
  touches = nothing;
  dates = no_dates;
}

-- create, write, cut and delete tell their number alone; one directory block may differ, and they change the file of their name
abbrev alters : List ℕ → (History → History) → (List ℕ → List ℕ) → (History → ℕ → Type 0) → ((File → Type 0) → File → Type 0) → Following
alters name moves blocks room dates = record {
  moves = moves;
  says = λ h n. told_only 0 [];
  asked = λ image. 0;
  compared = true;
  changes = true;
  blocks = blocks;
  directories = 1;
  room = room;
  touches = same_name name;
  dates = dates;
}

-- the file has the date of change as given, and the number, name and date of creation that it had
abbrev pub date_changed : ℕ → (File → Type 0) → File → Type 0
date_changed changed was x =
    (x.changed ≡ changed) × ((y : File) × was y × (y.number ≡ x.number) × (y.name ≡ x.name) × (y.created ≡ x.created))

-- no file is asked by its place
abbrev no_place : List ℕ → ℕ
no_place image = 0

-- what is told of facts, and of a file
abbrev told_facts : VolumeFacts → Told
told_facts f = record { number = 0; facts = f; entry = no_entry; count = 0; buffer = [] }

abbrev told_file : History → File → Told
told_file h x = record { number = 0; facts = no_facts; entry = entry_of (A h.facts) x; count = 0; buffer = [] }

-- read's count and bytes, which the history takes from the fork's bytes by the read rule
abbrev told_bytes : List ℕ → ℕ → List ℕ → Told
told_bytes bytes offset buffer = record {
  number = 0;
  facts = no_facts;
  entry = no_entry;
  count = read_count (length buffer) (length bytes) offset;
  buffer = copied bytes offset buffer;
}

abbrev pub following : Call → Following
following check = reads (λ h n. told_facts (facts_now h)) no_place
-- Entry tells of the history's file that the image's reading has at the place asked.
following (entry place) = reads (λ h n. told_file h (file_numbered n h)) (λ image. number_in (get_or (directory image) place []))
following (find name) = reads (λ h n. told_file h (file_called name h)) no_place
-- Block numbers are demand 2's.
following (block name fork place) = reads (λ h n. told_only 0 []) no_place
following (read name fork offset buffer) = reads (λ h n. told_bytes (held_of fork (file_called name h)).bytes offset buffer) no_place
-- Create adds a file; the next number goes up by one.
following (create name finder created changed) = alters name
    (λ h. record {
      facts = with_counts h.facts h.facts.files (next_file_number h.facts + 1) (free_count h.facts);
      files = h.files ++ (new_file (next_file_number h.facts) name finder created changed ∷ []);
    })
    (λ image. [])
    never17
    (λ was x. (x.created ≡ created) × (x.changed ≡ changed))
-- A write that passes the checks before 17 gets 17 exactly when it needs more new blocks than are free.
following (write name fork offset bytes changed) = alters name
    (λ h. record {
      facts = h.facts;
      files = map (on_called name (changed_fork fork (writes (A h.facts) (clump h.facts) (free_of h) offset bytes) changed)) h.files;
    })
    (λ image. blocks_named image name fork)
    (λ h number. (number ≡ 17) ↔ NoRoom h name fork offset bytes)
    (date_changed changed)
following (cut name fork size changed) = alters name
    (λ h. record { facts = h.facts; files = map (on_called name (changed_fork fork (cuts (A h.facts) size) changed)) h.files })
    (λ image. blocks_named image name fork)
    never17
    (date_changed changed)
-- Delete drops the file.
following (delete name) = alters name
    (λ h. record { facts = h.facts; files = keep (λ x. not (called name x)) h.files })
    (λ image. blocks_named image name Data ++ blocks_named image name Resource)
    never17
    no_dates
-- Wrap leaves the image; a call that is added later joins the list with the step its request gives it, or as one like this.
following (wrap name format buffer) = stands
-- So does quick find (document 02, T-08).
following (quick_find name) = stands
-- A rename names two names, and two directory blocks may differ. The file has the new name and the date of change as given, and the
-- number and date of creation that it had under its old name.
following (rename name new changed) = record {
  moves = λ h. record { facts = h.facts; files = map (on_called name (retitled_file new changed)) h.files };
  says = λ h n. told_only 0 [];
  asked = no_place;
  compared = true;
  changes = true;
  blocks = λ image. [];
  directories = 2;
  room = never17;
  touches = λ n. same_name name n || same_name new n;
  dates = λ was x. (x.name ≡ new) × (x.changed ≡ changed)
      × ((y : File) × was y × (called name y ≡ true) × (y.number ≡ x.number) × (y.created ≡ x.created));
}

-- ---- The history after a call, and what it tells of it

unfoldable pub moves : History → Call → History
moves h call = (following call).moves h

-- whether it may change the file of this name
unfoldable pub touches : Call → List ℕ → Bool
touches call = (following call).touches

unfoldable pub dates_given : Call → (File → Type 0) → File → Type 0
dates_given call = (following call).dates

-- Refused calls change nothing.
unfoldable pub step : History → Bool → Call → History
step h full call = cond (eqb (declines h full call) 0) (moves h call) h

unfoldable pub says : History → ℕ → Call → Told
says h n call = (following call).says h n

unfoldable pub tells : History → Bool → ℕ → Call → Told
tells h full n call = cond (eqb (declines h full call) 0) (says h n call) (told_only (declines h full call) (lent call))

-- ---- How an image reads as facts and files

unfoldable pub held_in : VolumeFacts → List ℕ → ForkFacts → Held
held_in f image g = record { bytes = fork_bytes (S f) (A f) image g; count = block_count (A f) g }

unfoldable pub file_in : VolumeFacts → List ℕ → List ℕ → File
file_in f image e = record {
  number = number_in e;
  name = name_in e;
  flags = byte e 0;
  finder = finder_in e;
  created = be32 e 42;
  changed = be32 e 46;
  content = held_in f image (fork_of Data e);
  resource = held_in f image (fork_of Resource e);
}

-- the files of an image in directory order
unfoldable pub files_in : List ℕ → List File
files_in image = map (file_in (facts_of image) image) (directory image)

-- It starts from the facts and files that the first image reads as.
unfoldable pub reading : List ℕ → History
reading image = record { facts = facts_of image; files = files_in image }

-- The image has these facts and files, each file at one place.
pub record Agrees (image : List ℕ) (h : History) : Type 0 where
  pub facts : facts_of image ≡ facts_now h
  pub files : Reordered (files_in image) h.files

-- ---- Runs

-- a call that was made: its arguments, what it answered and the image that it left
pub record Event : Type 0 where
  pub call : Call
  pub given : Answer
  pub left : List ℕ

-- Only the image passes from call to call: each event is one that demand 2 allows on the image that the event before it left.
unfoldable pub Run : List ℕ → List Event → Type 0
Run image [] = Unit
Run image (e ∷ events) = Does e.call image e.given e.left × Run e.left events

-- of the answer, the history is told this alone
unfoldable pub is18 : Event → Bool
is18 e = eqb e.given.number 18

-- the number of the file that the image's reading has at the place asked
unfoldable pub asked : List ℕ → Call → ℕ
asked image call = (following call).asked image

-- calls whose answers are compared
unfoldable pub compared : Call → Bool
compared call = (following call).compared

-- ---- Which bytes may differ

-- calls that may change the image
unfoldable pub changes : Call → Bool
changes call = (following call).changes

unfoldable pub named_blocks : Call → List ℕ → List ℕ
named_blocks call image = (following call).blocks image

-- the directory block at a place of a list
abbrev pub directory_at : List LogicalBlock → ℕ → ℕ
directory_at ds i = (get_or ds i (record { 0 = 0 })).0

-- The half-bytes that a change may touch, where bs are the blocks that the named fork has before or after and ds are directory
-- blocks: the blocks bs and their map entries (each three half-bytes), the directory blocks, the number of files, the next file
-- number, the free count. A neighbour's half-byte and dead space are not among them. The map starts at half-byte 2,176.
pub data MayDiffer (f : VolumeFacts) (bs : List ℕ) (ds : List LogicalBlock) : ℕ → Type 0 where
  in_block : (b h : ℕ) → 1 ≤ times b bs → Within (block_byte (S f) (A f) (record { 0 = b })) (A f) h → MayDiffer f bs ds h
  in_entry : (b h : ℕ) → 1 ≤ times b bs → 2176 + 3 * (b - 2) ≤ h → h < 2179 + 3 * (b - 2) → MayDiffer f bs ds h
  in_directory : (i h : ℕ) → i < length ds → Within (512 * directory_at ds i) 512 h → MayDiffer f bs ds h
  in_files : (h : ℕ) → Within 1036 2 h → MayDiffer f bs ds h
  in_next : (h : ℕ) → Within 1054 4 h → MayDiffer f bs ds h
  in_free : (h : ℕ) → Within 1058 2 h → MayDiffer f bs ds h

pub record OnlyNamed (call : Call) (image left : List ℕ) : Type 0 where
  pub size : length left ≡ length image
  -- directory blocks, as many as may differ for this call
  pub blocks : List LogicalBlock
  pub few : length blocks ≤ (following call).directories
  pub first : (i : ℕ) → i < length blocks → (dir_start (facts_of image)).0 ≤ directory_at blocks i
  pub last : (i : ℕ) → i < length blocks → directory_at blocks i < (dir_start (facts_of image)).0 + dir_length (facts_of image)
  pub kept : (h : ℕ) → (MayDiffer (facts_of image) (named_blocks call image ++ named_blocks call left) blocks h → ⊥) → half left h ≡ half image h

-- ---- Refusal 17

-- A write that passes the checks before 17 gets 17 exactly when it needs more new blocks than are free; no other call gets 17.
unfoldable pub RoomRule : History → Call → ℕ → Type 0
RoomRule h call number = (following call).room h number

-- ---- The claim

-- what must hold after an event on an image that reads as the history h
pub record InStep (e : Event) (image : List ℕ) (h : History) : Type 0 where
  -- the image is bytes, and accepted
  pub bytes : Bytes e.left
  pub accepted : Accepted e.left
  -- it reads as the history says
  pub agrees : Agrees e.left (step h (is18 e) e.call)
  -- the answers agree, where they are compared
  pub told : compared e.call ≡ true → told_by e.given ≡ tells h (is18 e) (asked image e.call) e.call
  -- only the named bytes differ
  pub kept : OnlyNamed e.call image e.left
  -- a refused call and one that only reads change nothing
  pub still : (changes e.call && eqb e.given.number 0) ≡ false → e.left ≡ image
  -- refused for room exactly when more new blocks are needed than are free
  pub room : RoomRule h e.call e.given.number

-- every event of the list keeps step with the history
unfoldable pub Holds : List ℕ → History → List Event → Type 0
Holds image h [] = Unit
Holds image h (e ∷ events) = InStep e image h × Holds e.left (step h (is18 e) e.call) events

-- For every list of calls from an accepted image, refused ones included: the history starts from what the image reads as, and
-- every event keeps step with it.
unfoldable pub EveryRun : Type 0
EveryRun =
    (image : List ℕ) (events : List Event) → Accepted image → Run image events
    → Agrees image (reading image) × Holds image (reading image) events
