-- After each change that is not refused, every element of the image is still a byte; and a write ends below 2^32.
use Prim.Native.Nat.{ℕ, zero, suc, ◌+◌, ◌-◌, ◌*◌, ◌%◌, ◌≤◌, ◌<◌}
use mathlib.Core.Path.{◌≡◌, subst}
use mathlib.Core.Bool.{Bool, true, false, not, cond}
use mathlib.Core.List.{List, [], ◌∷◌, ◌++◌, map}
use native.Mathlib.Omega.{arith}
use native.Mathlib.Decide.{ℕ_discrete}
use native.Mathlib.Nat.{mul-le-mul_right}
use lib.ListN.{length, get_or, take, drop, length-append, length-take, length-drop}
use lib.Seq.{sets}
use Rattle.model.specs.Lists.{any, keep, first, place_of, flat, first_or0, times}
use Rattle.model.specs.Bytes.{bytes16, bytes32, zeros, part, Bytes}
use Rattle.model.specs.Facts.{facts_of, facts_in, dir_start, dir_length, N, A, S, next_file_number, free_count}
use Rattle.model.specs.Map.{map_entry, blocks_free, put_chain, put_free}
use Rattle.model.specs.Directory.{entry_size, ends_at, next_place, read_at, entries, read_end, cut_blocks, directory_blocks, listing, directory}
use Rattle.model.specs.Directory.{fork_place, fork_of, forks_in, block_count, fork_blocks, named}
use Rattle.model.specs.Check.{SoundFork, Accepted}
use Rattle.model.specs.Calls.{fewest, grown, taken_blocks, entry_named, has_room, put_content, filled, date_and_name, new_entry}
use Rattle.model.specs.Calls.{placed, removed_in, removed, on_named, rewritten_in, rewritten, with_fork, with_directory, with_files, with_next, with_free}
use Rattle.model.specs.Calls.{created, written, shortened, deleted, same_size, retitled, renamed_in, renamed, change, Fits}
use Rattle.model.specs.Calls.Call.{create, write, cut, delete, rename}
use Rattle.model.specs.declared.VolumeFacts.{VolumeFacts}
use Rattle.model.specs.declared.Fork.{Fork}
use Rattle.model.specs.declared.Fork.TheVariants.{Data, Resource}
use Rattle.model.proofs.Times.{times_append}
use Rattle.model.proofs.Check.{fork_good, fork_block}
use Rattle.laws.proofs.Sound.{Each, each_append}
use Rattle.laws.proofs.Chains.{length_fork_blocks, good}
use Rattle.laws.proofs.Free.{times_take, free_in}
use Rattle.laws.proofs.Joins.{InMap, in_map_head}
use Rattle.laws.proofs.Content.{fewest_holds}
use Rattle.laws.proofs.Counts.{needed_hold, taken_are_free}
use Rattle.laws.proofs.MapChecks.{block_counts, all_blocks}
use Rattle.laws.proofs.Octets.{Octets, octets, bytes, octets_take, octets_drop, octets_cons, octets_append, octets_zeros}
use Rattle.laws.proofs.Octets.{octets_u16, octets_u32, bytes_be32}
use Rattle.laws.proofs.Octets.{bytes_put_chain, bytes_put_free, bytes_put_content, bytes_paste, bytes_sets, octets_sets}
use Rattle.laws.proofs.MapSteps.{size_after, blocks_after}
use Rattle.laws.proofs.Blocks.{cut_count}
use Rattle.laws.proofs.Reorder.{first_found}
use Rattle.laws.proofs.Refusals.{MayCreate, MayChangeFile, MayWrite, MayChangeFork, MayRename}
use Rattle.laws.proofs.Acceptance.{sound_fork, map_passes}

-- ---- what holds of each element

each_flat : {X : Type 0} (P : X → Type 0) (ls : List (List X)) → Each (λ l. Each P l) ls → Each P (flat ls)
unfolding Each flat
each_flat P [] h = tt
each_flat P (l ∷ ls) h = each_append P l (flat ls) h.0 (each_flat P ls h.1)

each_map : {X Y : Type 0} (P : X → Type 0) (Q : Y → Type 0) (f : X → Y) → ((x : X) → P x → Q (f x)) → (l : List X) → Each P l → Each Q (map f l)
unfolding Each
each_map P Q f w [] h = tt
each_map P Q f w (x ∷ l) h = (w x h.0, each_map P Q f w l h.1)

each_kept : {X : Type 0} (P : X → Type 0) (p : X → Bool) (l : List X) → Each P l → Each P (keep p l)
unfolding Each keep
each_kept P p [] h = tt
each_kept P p (x ∷ l) h = go (p x) (each_kept P p l h.1)
  where
    go : (t : Bool) → Each P (keep p l) → Each P (cond t (x ∷ keep p l) (keep p l))
    go true r = (h.0, r)
    go false r = r

each_first : {X : Type 0} (P : X → Type 0) (p : X → Bool) (d : X) (l : List X) → P d → Each P l → P (first p d l)
unfolding Each first
each_first P p d [] z h = z
each_first P p d (x ∷ l) z h = go (p x) (each_first P p d l z h.1)
  where
    go : (t : Bool) → P (first p d l) → P (cond t x (first p d l))
    go true r = h.0
    go false r = r

-- ---- the directory's blocks

-- lists of bytes: directory blocks, or entries
abbrev AllOctets : List (List ℕ) → Type 0
AllOctets ls = Each Octets ls

octets_flat : (ls : List (List ℕ)) → AllOctets ls → Octets (flat ls)
octets_flat ls h = each_flat (λ x. x < 256) ls h

octets_part : (q k : ℕ) (l : List ℕ) → Octets l → Octets (part q k l)
octets_part q k l h = octets_take k (drop q l) (octets_drop q l h)

octets_cut : (k : ℕ) (c : List ℕ) → Octets c → AllOctets (cut_blocks k c)
unfolding cut_blocks Each
octets_cut zero c h = tt
octets_cut (suc k) c h = (octets_take 512 c h, octets_cut k (drop 512 c) (octets_drop 512 c h))

octets_directory : (f : VolumeFacts) (image : List ℕ) → Octets image → AllOctets (directory_blocks f image)
unfolding directory_blocks
octets_directory f image h = octets_cut (dir_length f) (drop (512 * (dir_start f).0) image) (octets_drop (512 * (dir_start f).0) image h)

octets_read : (k : ℕ) (b : List ℕ) (p : ℕ) → Octets b → AllOctets (read_at k b p)
unfolding read_at Each
octets_read zero b p h = tt
octets_read (suc k) b p h = go (ends_at b p) (octets_read k b (next_place b p) h)
  where
    go : (t : Bool) → AllOctets (read_at k b (next_place b p))
        → AllOctets (elim t as (λ _. List (List ℕ)) [ true ↦ [] | false ↦ part p (entry_size (drop p b)) b ∷ read_at k b (next_place b p) ])
    go true r = tt
    go false r = (octets_part p (entry_size (drop p b)) b h, r)

octets_entries : (b : List ℕ) → Octets b → AllOctets (entries b)
unfolding entries
octets_entries b h = octets_read 10 b 0 h

octets_filled : (es : List (List ℕ)) → AllOctets es → Octets (filled es)
unfolding filled
octets_filled es h = octets_append (flat es) (zeros (512 - length (flat es))) (octets_flat es h) (octets_zeros (512 - length (flat es)))

-- create
octets_placed : (e : List ℕ) → Octets e → (bs : List (List ℕ)) → AllOctets bs → AllOctets (placed e bs)
unfolding placed Each
octets_placed e o [] h = tt
octets_placed e o (b ∷ bs) h = go (has_room (length e) b) (octets_placed e o bs h.1)
  where
    go : (t : Bool) → AllOctets (placed e bs)
        → AllOctets (elim t as (λ _. List (List ℕ)) [ true ↦ filled (entries b ++ (e ∷ [])) ∷ bs | false ↦ b ∷ placed e bs ])
    go true r = (octets_filled (entries b ++ (e ∷ [])) (each_append Octets (entries b) (e ∷ []) (octets_entries b h.0) (o, tt)), h.1)
    go false r = (h.0, r)

octets_title : (changed : ℕ) (name : List ℕ) → changed < 4294967296 → Octets name → length name < 256 → Octets (date_and_name changed name)
octets_title changed name c o l =
    let pad = (51 + length name) % 2 in
    octets_append (bytes32 changed) _ (octets_u32 changed c)
    (octets_cons (length name) (name ++ zeros pad) l (octets_append name (zeros pad) o (octets_zeros pad)))

octets_new : (number : ℕ) (name finder : List ℕ) (made changed : ℕ) → number < 4294967296 → Octets name → Octets finder → made < 4294967296
    → changed < 4294967296 → length name < 256 → Octets (new_entry number name finder made changed)
unfolding new_entry
octets_new number name finder made changed n o f m c l =
    let dates = octets_append (bytes32 made) _ (octets_u32 made m) (octets_title changed name c o l) in
    let fields = octets_append (bytes32 number) _ (octets_u32 number n) (octets_append (zeros 20) _ (octets_zeros 20) dates) in
    octets_cons 0x80 _ (omega arith) (octets_cons 0 _ (omega arith) (octets_append finder _ f fields))

-- delete
octets_removed : (name : List ℕ) (bs : List (List ℕ)) → AllOctets bs → AllOctets (removed name bs)
unfolding removed removed_in
octets_removed name bs h = each_map Octets Octets (removed_in name) (λ b o. go b o (any (named name) (entries b))) bs h
  where
    go : (b : List ℕ) → Octets b → (t : Bool) → Octets (elim t as (λ _. List ℕ) [ true ↦ filled (keep (λ e. not (named name e)) (entries b)) | false ↦ b ])
    go b o true = octets_filled (keep (λ e. not (named name e)) (entries b)) (each_kept Octets (λ e. not (named name e)) (entries b) (octets_entries b o))
    go b o false = o

-- write and cut
octets_rewritten : (name : List ℕ) (g : List ℕ → List ℕ) → ((e : List ℕ) → Octets e → Octets (g e)) → (bs : List (List ℕ)) → AllOctets bs
    → AllOctets (rewritten name g bs)
unfolding rewritten rewritten_in on_named
octets_rewritten name g w bs h = each_map Octets Octets (rewritten_in name g) block bs h
  where
    one : (e : List ℕ) → Octets e → (t : Bool) → Octets (cond t (g e) e)
    one e o true = w e o
    one e o false = o

    block : (b : List ℕ) → Octets b → Octets (rewritten_in name g b)
    block b o =
        octets_append (flat (map (on_named name g) (entries b))) (drop (read_end b) b)
        (octets_flat (map (on_named name g) (entries b))
        (each_map Octets Octets (on_named name g) (λ e q. one e q (named name e)) (entries b) (octets_entries b o)))
        (octets_drop (read_end b) b o)

octets_fork : (fork : Fork) (a logical : ℕ) (bs : List ℕ) (changed : ℕ) → first_or0 bs < 65536 → logical < 4294967296
    → length bs * a < 4294967296 → changed < 4294967296 → (e : List ℕ) → Octets e → Octets (with_fork fork a logical bs changed e)
unfolding with_fork
octets_fork fork a logical bs changed s l p c e o =
    let fields = octets_append (bytes16 (first_or0 bs)) _ (octets_u16 (first_or0 bs) s)
    (octets_append (bytes32 logical) (bytes32 (length bs * a)) (octets_u32 logical l) (octets_u32 (length bs * a) p)) in
    octets_sets (sets e (fork_place fork) (bytes16 (first_or0 bs) ++ (bytes32 logical ++ bytes32 (length bs * a)))) 46 (bytes32 changed)
    (octets_sets e (fork_place fork) (bytes16 (first_or0 bs) ++ (bytes32 logical ++ bytes32 (length bs * a))) o fields) (octets_u32 changed c)

-- rename
octets_retitled : (new : List ℕ) (changed : ℕ) → changed < 4294967296 → Octets new → length new < 256 → (e : List ℕ) → Octets e
    → Octets (retitled new changed e)
unfolding retitled
octets_retitled new changed c o l e h = octets_append (take 46 e) _ (octets_take 46 e h) (octets_title changed new c o l)

octets_renamed : (name new : List ℕ) (changed : ℕ) → changed < 4294967296 → Octets new → length new < 256 → (e : List ℕ) → Octets e → (bs : List (List ℕ))
    → AllOctets bs → AllOctets (renamed_in name new changed e bs)
unfolding renamed_in
octets_renamed name new changed c o l e h bs k = go (same_size name new)
  where
    go : (t : Bool) → AllOctets (elim t as (λ _. List (List ℕ)) [
      | true ↦ rewritten name (retitled new changed) bs
      | false ↦ placed (retitled new changed e) (removed name bs)
    ])
    go true = octets_rewritten name (retitled new changed) (octets_retitled new changed c o l) bs k
    go false = octets_placed (retitled new changed e) (octets_retitled new changed c o l e h) (removed name bs) (octets_removed name bs k)

-- ---- the image with other directory blocks, and other counts

directory_kept : (f : VolumeFacts) (image : List ℕ) (bs : List (List ℕ)) → Bytes image → AllOctets bs → Bytes (with_directory f image bs)
unfolding with_directory
directory_kept f image bs h o = bytes_paste image (512 * (dir_start f).0) (flat bs) (512 * dir_length f) h (bytes (flat bs) (octets_flat bs o))

files_kept : (n : ℕ) (image : List ℕ) → n < 65536 → Bytes image → Bytes (with_files n image)
unfolding with_files
files_kept n image l h = bytes_sets image 1036 (bytes16 n) h (bytes (bytes16 n) (octets_u16 n l))

next_kept : (n : ℕ) (image : List ℕ) → n < 4294967296 → Bytes image → Bytes (with_next n image)
unfolding with_next
next_kept n image l h = bytes_sets image 1054 (bytes32 n) h (bytes (bytes32 n) (octets_u32 n l))

free_kept : (n : ℕ) (image : List ℕ) → n < 65536 → Bytes image → Bytes (with_free n image)
unfolding with_free
free_kept n image l h = bytes_sets image 1058 (bytes16 n) h (bytes (bytes16 n) (octets_u16 n l))

-- ---- how large the numbers are

-- no more than ten entries begin in a block
pub read_few : (k : ℕ) (b : List ℕ) (p : ℕ) → length (read_at k b p) ≤ k
unfolding read_at
read_few zero b p = omega arith
read_few (suc k) b p = go (ends_at b p) (read_few k b (next_place b p))
  where
    go : (t : Bool) → length (read_at k b (next_place b p)) ≤ k
        → length {A = List ℕ} (elim t as (λ _. List (List ℕ)) [ true ↦ [] | false ↦ part p (entry_size (drop p b)) b ∷ read_at k b (next_place b p) ]) ≤ suc k
    go true r = omega arith
    go false r = omega arith

listing_few : (bs : List (List ℕ)) → length (listing bs) ≤ 10 * length bs
unfolding listing flat entries
listing_few [] = omega arith
listing_few (b ∷ bs) = omega (arith, length-append (read_at 10 b 0) (flat (map entries bs)), read_few 10 b 0, listing_few bs)

next_fits : (image : List ℕ) → Bytes image → next_file_number (facts_of image) < 4294967296
unfolding facts_of facts_in
next_fits image h = bytes_be32 (drop 1024 image) 30 (bytes (drop 1024 image) (octets_drop 1024 image (octets image h)))

-- the two forks of an entry have no more blocks than all forks
entry_counts : (a : ℕ) (es : List (List ℕ)) (i : ℕ) → i < length es
    → block_count a (fork_of Data (get_or es i [])) + block_count a (fork_of Resource (get_or es i [])) ≤ block_counts a (forks_in es)
unfolding forks_in block_counts
entry_counts a [] i l = absurd (omega arith)
entry_counts a (e ∷ es) zero l = omega arith
entry_counts a (e ∷ es) (suc i) l = omega (arith, entry_counts a es i (omega arith))

-- the first of some blocks, or 0
first_low : (n : ℕ) → n ≤ 640 → (bs : List ℕ) → InMap n bs → first_or0 bs < 65536
unfolding first_or0
first_low n small [] w = omega arith
first_low n small (b ∷ bs) w = omega (arith, in_map_head n small b bs w)

in_both : (n : ℕ) (bs cs : List ℕ) → InMap n bs → InMap n cs → InMap n (bs ++ cs)
in_both n bs cs u w b p =
    elim (ℕ_discrete (times b bs) 0) [ yes z ↦ w b (omega (arith, times_append b bs cs)) | no z ↦ u b (omega arith) ]

module _ (image : List ℕ) (acc : Accepted image) where
  abbrev f : VolumeFacts
  f = facts_of image

  pub files_few : (facts_of image).files ≤ 2560
  unfolding directory directory_blocks
  files_few =
      omega (
        arith,
        acc.files.count,
        acc.facts.layout.dir_most,
        listing_few (directory_blocks f image),
        cut_count (dir_length f) (drop (512 * (dir_start f).0) image),
      )

  -- blocks that are at most N in number hold fewer bytes than a field can say
  size_fits : (k : ℕ) → k ≤ N (facts_of image) → k * A (facts_of image) < 4294967296
  size_fits k l = let y = acc.facts.layout in omega (arith, y.most, y.small, mul-le-mul_right {m = k} {n = 640} (A f) (omega (arith, y.most)))

  -- the file of a name that is found
  module _ (name : List ℕ) (found : any (named name) (directory image) ≡ true) where
    abbrev it : List ℕ
    it = entry_named name image

    abbrev blocks : Fork → List ℕ
    blocks fork = fork_blocks (map_entry image) (A f) (fork_of fork it)

    named_sound : (fork : Fork) → SoundFork (map_entry image) (N f) (A f) (fork_of fork it)
    unfolding entry_named
    named_sound fork =
        let r = first_found (named name) [] (directory image) found in
        subst (λ (e : List ℕ). SoundFork (map_entry image) (N f) (A f) (fork_of fork e)) r.1
        (sound_fork image acc (place_of (named name) (directory image)) r.0 fork)

    -- its blocks and the free ones are no more than N
    pub named_counts : free_count f + (length (blocks Data) + length (blocks Resource)) ≤ N f
    unfolding entry_named
    named_counts =
        let r = first_found (named name) [] (directory image) found in
        let all = block_counts (A f) (forks_in (directory image)) in
        let c = subst (λ (e : List ℕ). block_count (A f) (fork_of Data e) + block_count (A f) (fork_of Resource e) ≤ all) r.1
        (entry_counts (A f) (directory image) (place_of (named name) (directory image)) r.0) in
        omega (
          arith,
          all_blocks (map_entry image) (N f) (A f) (free_count f) (forks_in (directory image)) (map_passes image acc),
          length_fork_blocks (map_entry image) (A f) (fork_of Data it),
          length_fork_blocks (map_entry image) (A f) (fork_of Resource it),
        )

    named_count : (fork : Fork) → free_count f + length (blocks fork) ≤ N f
    named_count Data = omega (arith, named_counts)
    named_count Resource = omega (arith, named_counts)

    named_blocks_lem : (fork : Fork) → InMap (N f) (blocks fork)
    named_blocks_lem fork b p = fork_block (map_entry image) (N f) (A f) (fork_of fork it) b (named_sound fork) p

    named_holds : (fork : Fork) → (fork_of fork it).logical ≤ length (blocks fork) * A f
    named_holds fork =
        (good (map_entry image) (N f) (A f) (fork_of fork it) (fork_good (map_entry image) (N f) (A f) (fork_of fork it) (named_sound fork))).0.logical

-- ---- the changes

pub created_bytes : (image : List ℕ) → Accepted image → Bytes image → (name finder : List ℕ) (created changed : ℕ)
    → Fits (create name finder created changed) → MayCreate image name → Bytes (change (create name finder created changed) image)
unfolding change created Fits
created_bytes image acc h name finder made changed fits may =
    let f = facts_of image in
    let n = next_fits image h in
    let e = new_entry (next_file_number f) name finder made changed in
    let o = octets_new (next_file_number f) name finder made changed n (octets name fits.0) (octets finder fits.1) fits.3 fits.4
    (omega (arith, may.title.short)) in
    let bs = placed e (directory_blocks f image) in
    let q = may.number in
    files_kept (f.files + 1) (with_next (next_file_number f + 1) (with_directory f image bs)) (omega (arith, files_few image acc))
    (next_kept (next_file_number f + 1) (with_directory f image bs) (omega arith)
    (directory_kept f image bs h (octets_placed e o (directory_blocks f image) (octets_directory f image (octets image h)))))

-- write and cut: the image base with the fields of the fork that has the blocks bs and logical bytes now
rewritten_kept : (image : List ℕ) → Accepted image → Bytes image → (name : List ℕ) (fork : Fork) (logical : ℕ) (bs : List ℕ)
    (changed free : ℕ) (base : List ℕ) → Bytes base
    → InMap (N (facts_of image)) bs → length bs ≤ N (facts_of image) → logical < 4294967296 → changed < 4294967296 → free ≤ N (facts_of image)
    → let f = facts_of image in
    Bytes (with_free free (with_directory f base (rewritten name (with_fork fork (A f) logical bs changed) (directory_blocks f image))))
rewritten_kept image acc h name fork logical bs changed free base b w k l c r =
    let f = facts_of image in
    let g = with_fork fork (A f) logical bs changed in
    let o = octets_fork fork (A f) logical bs changed (first_low (N f) acc.facts.layout.most bs w) l (size_fits image acc (length bs) k) c in
    free_kept free (with_directory f base (rewritten name g (directory_blocks f image))) (omega (arith, acc.facts.layout.most))
    (directory_kept f base (rewritten name g (directory_blocks f image)) b
    (octets_rewritten name g o (directory_blocks f image) (octets_directory f image (octets image h))))

-- a write that is not refused ends where a field can say
pub written_low : (image : List ℕ) → Accepted image → (name : List ℕ) (fork : Fork) (offset count : ℕ) → MayWrite image name fork offset count
    → grown (fork_of fork (entry_named name image)).logical offset count < 4294967296
written_low image acc name fork o count may =
    let f = facts_of image in
    let g = fork_of fork (entry_named name image) in
    let size = grown g.logical o count in
    let need = needed_hold f g o count in
    let fit = size_fits image acc (fewest size (A f))
    (omega (arith, named_count image acc name may.file.exists fork, length_fork_blocks (map_entry image) (A f) g, may.room)) in
    omega (arith, fewest_holds size (A f) (omega (arith, acc.facts.layout.large)))

pub written_bytes : (image : List ℕ) → Accepted image → Bytes image → (name : List ℕ) (fork : Fork) (offset : ℕ) (bytes : List ℕ) (changed : ℕ)
    → Fits (write name fork offset bytes changed) → MayWrite image name fork offset (length bytes) → Bytes (change (write name fork offset bytes changed) image)
unfolding change written Fits
written_bytes image acc h name fork o xs changed fits may =
    let f = facts_of image in
    let g = fork_of fork (entry_named name image) in
    let found = may.file.exists in
    let old = fork_blocks (map_entry image) (A f) g in
    let size = size_after g o xs in
    let new = taken_blocks f g o (length xs) in
    let all = blocks_after (map_entry image) (N f) (A f) g new in
    let enough = taken_are_free f g o (length xs) (omega (arith, acc.facts.layout.large)) may.room in
    let count = named_count image acc name found fork in
    let most : length all ≤ length old + new = rw (length-append, length-take) (omega arith) in
    let w : InMap (N f) all = in_both (N f) old (take new (blocks_free (map_entry image) (N f))) (named_blocks_lem image acc name found fork)
    (λ b p. let r = free_in (map_entry image) (N f) new b p in (r.0, r.1)) in
    rewritten_kept image acc h name fork size all changed (free_count f - new) (put_content (S f) (A f) (put_chain image all) all o xs)
    (bytes_put_content (S f) (A f) (put_chain image all) all o xs (bytes_put_chain (N f) acc.facts.layout.most image all w h) fits.2)
    w (omega arith) (written_low image acc name fork o (length xs) may) fits.3 (omega (arith, count))

pub shortened_bytes : (image : List ℕ) → Accepted image → Bytes image → (name : List ℕ) (fork : Fork) (size changed : ℕ)
    → Fits (cut name fork size changed) → MayChangeFork image name fork size → Bytes (change (cut name fork size changed) image)
unfolding change shortened Fits
shortened_bytes image acc h name fork n changed fits may =
    let f = facts_of image in
    let found = may.file.exists in
    let old = fork_blocks (map_entry image) (A f) (fork_of fork (entry_named name image)) in
    let kept = take (fewest n (A f)) old in
    let freed = drop (fewest n (A f)) old in
    let count = named_count image acc name found fork in
    let w : InMap (N f) kept = λ b p. named_blocks_lem image acc name found fork b (omega (arith, times_take b (fewest n (A f)) old)) in
    rewritten_kept image acc h name fork n kept changed (free_count f + length freed) (put_free (put_chain image kept) freed)
    (bytes_put_free (put_chain image kept) freed (bytes_put_chain (N f) acc.facts.layout.most image kept w h))
    w (rw length-take (omega arith))
    (omega (arith, may.within, named_holds image acc name found fork, size_fits image acc (length old) (omega arith)))
    fits.2 (rw length-drop (omega arith))

pub deleted_bytes : (image : List ℕ) → Accepted image → Bytes image → (name : List ℕ) → Fits (delete name) → MayChangeFile image name
    → Bytes (change (delete name) image)
unfolding change deleted
deleted_bytes image acc h name fits may =
    let f = facts_of image in
    let e = entry_named name image in
    let content = fork_blocks (map_entry image) (A f) (fork_of Data e) in
    let resource = fork_blocks (map_entry image) (A f) (fork_of Resource e) in
    let freed = content ++ resource in
    let bs = removed name (directory_blocks f image) in
    free_kept (free_count f + length freed) (with_files (f.files - 1) (with_directory f (put_free image freed) bs))
    (omega (arith, length-append content resource, named_counts image acc name may.exists, acc.facts.layout.most))
    (files_kept (f.files - 1) (with_directory f (put_free image freed) bs) (omega (arith, files_few image acc))
    (directory_kept f (put_free image freed) bs (bytes_put_free image freed h)
    (octets_removed name (directory_blocks f image) (octets_directory f image (octets image h)))))

pub renamed_bytes : (image : List ℕ) → Bytes image → (name new : List ℕ) (changed : ℕ) → Fits (rename name new changed) → MayRename image name new
    → Bytes (change (rename name new changed) image)
unfolding change renamed Fits entry_named directory listing
renamed_bytes image h name new changed fits may =
    let f = facts_of image in
    let bs = directory_blocks f image in
    let o = octets_directory f image (octets image h) in
    let all : AllOctets (flat (map entries bs)) = each_flat Octets (map entries bs) (each_map Octets AllOctets entries octets_entries bs o) in
    directory_kept f image (renamed_in name new changed (entry_named name image) bs) h
    (octets_renamed name new changed fits.2 (octets new fits.1) (omega (arith, may.title.short)) (entry_named name image)
    (each_first Octets (named name) [] (flat (map entries bs)) (octets_zeros 0) all) bs o)
