-- The tables of worked cases hold: antt computes them.
use Prim.Native.Nat.{ℕ, suc, ◌+◌}
use mathlib.Core.Path.{◌≡◌, refl, sym, ap, ◌∙◌}
use mathlib.Core.Bool.{true, false, not}
use mathlib.Core.List.{List, [], ◌∷◌, ◌++◌}
use native.Mathlib.Omega.{arith}
use lib.Dec.{eqb, eqb-suc-zero}
use lib.ListN.{take, drop, replicate, length, get_or, length-append, take-append-drop}
use lib.Seq.{sets, drop-drop, drop_at, take_at}
use Rattle.model.specs.Lists.{every, any, distinct, keep, leading, first, place_of, flat, from, times, first_or0}
use Rattle.model.specs.Bytes.{part, be16, be32, bytes32, zeros}
use Rattle.model.specs.Facts.{facts_in, facts_of, clump, is_locked, no_facts}
use Rattle.model.specs.Map.{joined, first_byte, second_byte, map_entry, set_entry, is_block, sort_of, is_bad, runs, chain_blocks, blocks_free, behind, put_chain}
use Rattle.model.specs.Map.{put_free, three_bytes, entries_in, bytes_for}
use Rattle.model.specs.Directory.{padded, entry_size, in_use, ends_at, next_place, read_at, entries, read_end, cut_blocks, directory_blocks, listing, directory}
use Rattle.model.specs.Directory.{number_in, name_in, finder_in, fork_in, fork_of, wide, entry_in, no_entry, flags_lock, forks_in, block_count, fork_blocks}
use Rattle.model.specs.Directory.{owned_blocks, letters, accents, pairs, is_pair, paired, same_byte, same_name, named}
use Rattle.model.specs.Check.{fires1, fires2, fires3, fires4, fires5, good_entry, fires6, good_number, fires7, empty_fork, full_fork, good_fork, shares_none}
use Rattle.model.specs.Check.{or_else, first_refusal, fires8, fires9, fires10, facts_number, first_four}
use Rattle.model.specs.Check.{from9, from8, from7, from6, from5, from4, from3, from2, verdict}
use Rattle.model.specs.Quick.{quick_entries, quick_listing, quick_directory, shows, looked_at, blocks_looked}
use Rattle.model.specs.Container.{inside, tags, turned, added, summed, checksum, tag_checksum, bad_size, bad_header, fires22, fires23, fires24}
use Rattle.model.specs.Container.{container_verdict, with_data, renewed, bad_lengths, fixed_fields, header_for, wrapping}
use Rattle.model.specs.Calls.{name_of, fork_given, fewest, grown, needed, needed_blocks, rounded, taken, taken_blocks, bad_name, too_long, same_size, checks}
use Rattle.model.specs.Calls.{refuses, carries, entry_named, has_room, known_in, refusal}
use Rattle.model.specs.Calls.{bytes_of, fork_bytes, put_blocks, put_content, read_count, copied, filled, new_entry, placed, removed_in, removed, on_named, rewritten_in}
use Rattle.model.specs.Calls.{rewritten, with_fork, with_directory, with_files, with_next, with_free, created, written, shortened, deleted}
use Rattle.model.specs.Calls.{retitled, renamed_in, renamed, change, only}
use Rattle.model.specs.Calls.{tells_facts, tells_entry, tells_block, tells_bytes, tells_quick, reply, lent, answer, after}
use Rattle.model.specs.Cases.{info, disk, entry_bytes, week_entry, rates_entry, hall_map, hall_plan, hall, hall_by_rules, with_bytes, sample, with_week1}
use Rattle.model.specs.Cases.{free_count3, ring, info800, Right, AllRight, end, ◌&◌, week_facts, p_cases, PCases, hall_facts, rates_facts, news_entry}
use Rattle.model.specs.Cases.{padded_disk, stale_disk, dead_disk, full_week, resource_disk, roomy_disk, long_name, long_disk, two_blocks, tells_read, long_facts}
use Rattle.model.specs.Cases.{telling, long_names, WEEK1, head_of, head_with, containers, accent_disk, accent_facts, letters_listed, pairs_listed, others_low}
use Rattle.model.specs.Cases.{others_high, accented, last_pair, threes, flagged, flag_disk, tight_disk, renamings, clump_disk, clumped, quick_disk, apart_disk}
use Rattle.model.specs.Cases.{versioned, hidden_disk, again_disk, bad_map_disk, news_facts, quick_finds, FurtherCases}
use Rattle.model.specs.Cases.Row.{passes3, gives3, wraps, stops, declines, serves, renews, twins, alone}
use Rattle.model.specs.Calls.{Call}
use Rattle.model.specs.declared.Fork.TheVariants.{Data}
use Rattle.model.specs.Calls.Call.{check, read, delete}
use Rattle.model.specs.Wrapped.{file_refusal, file_answer, file_after}
use Rattle.model.proofs.Lists.{every_at}
use Rattle.model.proofs.Names.{unpaired, only_itself, lower_twin, upper_twin}

-- all that a case computes through, opened by one name
unfoldable pub everything : Unit {0}
unfolding every any distinct keep leading first place_of flat from times first_or0
    be16 be32 first_refusal
    facts_in facts_of clump is_locked no_facts
    joined first_byte second_byte map_entry set_entry is_block sort_of is_bad runs chain_blocks blocks_free behind put_chain put_free
    three_bytes entries_in bytes_for
    padded entry_size in_use ends_at next_place read_at entries read_end cut_blocks directory_blocks listing directory number_in name_in finder_in fork_in fork_of wide
    entry_in no_entry flags_lock forks_in block_count fork_blocks owned_blocks letters accents pairs is_pair paired same_byte same_name named
    fires1 fires2 fires3 fires4 fires5 good_entry fires6 good_number fires7 empty_fork full_fork good_fork shares_none fires8 fires9 fires10 from9 from8 from7 from6
    from5 from4 from3 from2 facts_number first_four verdict
    quick_entries quick_listing quick_directory shows looked_at blocks_looked
    name_of fork_given fewest grown needed needed_blocks rounded taken taken_blocks bad_name too_long same_size checks refuses carries entry_named has_room known_in
    refusal
    bytes_of fork_bytes put_blocks put_content
    read_count copied filled new_entry placed removed_in removed on_named rewritten_in rewritten with_fork with_directory with_files with_next with_free created written shortened
    deleted retitled renamed_in renamed change only tells_facts tells_entry tells_block tells_bytes tells_quick reply lent answer after
    turned added summed checksum tag_checksum bad_size bad_lengths
    info disk entry_bytes week_entry rates_entry hall_map hall_plan hall hall_by_rules with_bytes sample with_week1 free_count3 ring info800 Right week_facts hall_facts
    rates_facts news_entry padded_disk stale_disk dead_disk full_week resource_disk roomy_disk long_name long_disk two_blocks tells_read long_facts head_of head_with
    accent_disk accent_facts flagged flag_disk tight_disk clump_disk quick_disk apart_disk versioned hidden_disk again_disk bad_map_disk news_facts
everything = tt

-- the facts are those of the 64 bytes at 1024
facts_of_lem : (image v : List ℕ) → part 1024 64 image ≡ v → facts_of image ≡ facts_in (v ++ drop 1088 image)
unfolding facts_of
facts_of_lem image v e = ap facts_in (sym (take-append-drop 64 (drop 1024 image)) ∙ rw (e, drop-drop 64 1024 image))

passes_391 : Right (passes3 391)
unfolding Right fires3 info800 facts_in be32 be16 flat
passes_391 image l e = rw (facts_of_lem image (info800 391) e, l)

gives_392 : Right (gives3 392)
unfolding Right verdict from2 from3 fires1 fires2 fires3 info800 facts_in be32 be16 flat
gives_392 image l e = rw (facts_of_lem image (info800 392) e, l)

-- ---- files of a header, data and tags

fires_first : (n rest : ℕ) → first_refusal (suc n) rest ≡ suc n
unfolding first_refusal
fires_first n rest = refl

passes_first : (rest : ℕ) → first_refusal 0 rest ≡ rest
unfolding first_refusal
passes_first rest = refl

none_first : first_refusal 0 0 ≡ 0
none_first = passes_first 0

module _ (header content behind : List ℕ) (h : length header ≡ 84) (l : length content ≡ 409600) where
  abbrev pub file : List ℕ
  file = header ++ (content ++ behind)

  behind_header : drop 84 file ≡ content ++ behind
  behind_header = drop_at header (content ++ behind) 84 h

  pub the_data : inside file ≡ content
  unfolding inside
  the_data = ap (take 409600) behind_header ∙ take_at content behind 409600 l

  the_tags : tags file ≡ behind
  unfolding tags
  the_tags = sym (drop-drop 409600 84 file) ∙ ap (drop 409600) behind_header ∙ drop_at content behind 409600 l

  the_size : length file ≡ 409684 + length behind
  the_size = length-append header (content ++ behind) ∙ (let q = length-append content behind in omega arith)

  -- the first of 22 to 24 that fires, by the header and the sums
  pub judged : (sum long tag_sum : ℕ) → checksum content ≡ sum → length behind ≡ long → tag_checksum behind ≡ tag_sum
      → container_verdict file
      ≡ or_else (bad_header (409684 + long) file) 22 (or_else (not (eqb (be32 file 72) sum)) 23 (or_else (not (eqb (be32 file 76) tag_sum)) 24 0))
  unfolding container_verdict fires22 fires23 fires24
  judged sum long tag_sum s k t =
      let number : ℕ → ℕ → ℕ → ℕ = λ size x y.
      or_else (bad_header size file) 22 (or_else (not (eqb (be32 file 72) x)) 23 (or_else (not (eqb (be32 file 76) y)) 24 0)) in
      ap (λ (n : ℕ). number n (checksum (inside file)) (tag_checksum (tags file))) (the_size ∙ ap (λ (n : ℕ). 409684 + n) k)
      ∙ ap (λ (n : ℕ). number (409684 + long) n (tag_checksum (tags file))) (ap checksum the_data ∙ s)
      ∙ ap (λ (n : ℕ). number (409684 + long) sum n) (ap tag_checksum the_tags ∙ t)

  -- refused by one of them
  turned_away : (call : Call) (n : ℕ) → container_verdict file ≡ suc n → (file_answer call file ≡ only (suc n) (lent call)) × (file_after call file ≡ file)
  unfolding file_answer file_after file_refusal
  turned_away call n e =
      let own = refusal call (inside file) in
      (simp (e, fires_first n own, eqb-suc-zero n), simp (e, fires_first n own, eqb-suc-zero n))

  -- the number is the call's on the data
  inner_number : (call : Call) → container_verdict file ≡ 0 → first_refusal (container_verdict file) (refusal call (inside file)) ≡ refusal call content
  inner_number call e =
      ap (λ (k : ℕ). first_refusal k (refusal call (inside file))) e ∙ passes_first (refusal call (inside file)) ∙ ap (refusal call) the_data

  pub with_new : (new : List ℕ) (sum : ℕ) → checksum new ≡ sum → renewed file new ≡ sets (header ++ (new ++ behind)) 72 (bytes32 sum)
  unfolding renewed with_data
  with_new new sum s =
      ap (λ (l : List ℕ). sets (l ++ (new ++ tags file)) 72 (bytes32 (checksum new))) (take_at header (content ++ behind) 84 h)
      ∙ ap (λ (l : List ℕ). sets (header ++ (new ++ l)) 72 (bytes32 (checksum new))) the_tags
      ∙ ap (λ (n : ℕ). sets (header ++ (new ++ behind)) 72 (bytes32 n)) s

-- a row that computes: its answer and its image, or its two numbers
abbrev pub row : {A B : Type 0} {x : A} {y : B} → (x ≡ x) × (y ≡ y)
row = (refl, refl)

abbrev looked : {A B C : Type 0} {x : A} {y : B} {z : C} → (x ≡ x) × (y ≡ y) × (z ≡ z)
looked = (refl, refl, refl)

pub cases : PCases
unfolding everything p_cases PCases
cases = row & row & refl & row & row & row & row & row & row & row & row & row & row & row & row & passes_391 & gives_392 & end

-- a header of literal bytes
-- the number of such a file's container, by its bytes
abbrev Passes : List ℕ → ℕ → ℕ → ℕ → ℕ → Type 0
Passes header sum long tag_sum number =
    (content behind : List ℕ) → or_else (bad_header (409684 + long) (header ++ (content ++ behind))) 22
    (or_else (not (eqb (be32 (header ++ (content ++ behind)) 72) sum)) 23 (or_else (not (eqb (be32 (header ++ (content ++ behind)) 76) tag_sum)) 24 0)) ≡ number

declined : (header : List ℕ) (sum long tag_sum n : ℕ) (call : Call) → length header ≡ 84 → Passes header sum long tag_sum 0
    → Right (declines header sum long tag_sum call (suc n))
unfolding Right file_answer file_after file_refusal
declined header sum long tag_sum n call h q content behind l s k t z =
    let r = inner_number header content behind h l call (judged header content behind h l sum long tag_sum s k t ∙ q content behind) ∙ z in
    (simp (r, eqb-suc-zero n), simp (r, eqb-suc-zero n))

served : (header after : List ℕ) (sum long tag_sum new : ℕ) (call : Call) → length header ≡ 84 → Passes header sum long tag_sum 0
    → ((rest : List ℕ) → sets (header ++ rest) 72 (bytes32 new) ≡ after ++ rest) → Right (serves header sum long tag_sum call new after)
unfolding Right file_answer file_after file_refusal
served header after sum long tag_sum new call h q p content behind l s k t z m =
    let r = inner_number header content behind h l call (judged header content behind h l sum long tag_sum s k t ∙ q content behind) ∙ z in
    let d = the_data header content behind h l in (
      rw r (ap (reply call) d),
      rw r (ap (λ (c : List ℕ). renewed (header ++ (content ++ behind)) (change call c)) d ∙ with_new header content behind h l (change call content) new m
          ∙ p (change call content ++ behind)),
    )

stopped : (header : List ℕ) (sum long tag_sum n : ℕ) (call : Call) → length header ≡ 84
    → Passes header sum long tag_sum (suc n) → Right (stops header sum long tag_sum call (only (suc n) (lent call)))
unfolding Right
stopped header sum long tag_sum n call h q content behind l s k t =
    turned_away header content behind h l call n (judged header content behind h l sum long tag_sum s k t ∙ q content behind)

renewed_row : (header after : List ℕ) (sum : ℕ) → length header ≡ 84
    → ((rest : List ℕ) → sets (header ++ rest) 72 (bytes32 sum) ≡ after ++ rest) → Right (renews header sum after)
unfolding Right
renewed_row header after sum h q content new behind l m s = with_new header content behind h l new sum s ∙ q (new ++ behind)

wrapped_row : (name header : List ℕ) (format sum : ℕ) → header_for name format sum ≡ header → bad_lengths 409600 409684 (length name) ≡ false
    → Right (wraps name format sum header)
unfolding Right answer after refusal checks refuses reply change wrapping
wrapped_row name header format sum q fits image buffer l v s b =
    let first : first_refusal (or_else (bad_lengths (length image) (length buffer) (length name)) 22 (verdict image)) 0 ≡ 0 = rw (l, b, fits, v) none_first in
    (rw (first, s, q), rw first)

containers_right : AllRight containers
unfolding everything containers header_for fixed_fields lent only
containers_right =
    refl & refl & refl & refl & refl & refl & refl & refl
    & refl & refl & refl & refl & refl & refl & refl & refl & refl & refl & refl & refl & refl
    & stopped (head_of 64 (replicate 63 0) 409600 0 8 9 0 0 0x100) 7 0 0 21 check refl (λ c b. refl)
    & stopped (head_with 0 8 9) 7 0 0 22 check refl (λ c b. refl)
    & stopped (head_with 0 7 9) 7 0 0 23 check refl (λ c b. refl)
    & stopped (head_with 9600 7 9) 7 9600 8 23 (read WEEK1 Data 0 (replicate 3 0xee)) refl (λ c b. refl)
    & stopped (head_with 9600 8 8) 7 9600 8 22 (delete WEEK1) refl (λ c b. refl)
    & stopped (head_with 9600 7 8) 7 0 0 21 (delete WEEK1) refl (λ c b. refl)
    & declined (head_with 9600 7 8) 7 9600 8 14 (delete WEEK1) refl (λ c b. refl)
    & served (head_with 9600 7 8) (head_with 9600 0x01020304 8) 7 9600 8 0x01020304 (delete WEEK1) refl (λ c b. refl) (λ r. refl)
    & renewed_row (head_with 9600 7 9) (head_with 9600 0x01020304 9) 0x01020304 refl (λ r. refl)
    & refl & refl & refl & refl & refl
    & wrapped_row (72 ∷ 65 ∷ 76 ∷ 76 ∷ []) (head_of 4 (72 ∷ 65 ∷ 76 ∷ 76 ∷ zeros 59) 409600 0 0x01020304 0 0 0x22 0x100) 0x22 0x01020304 refl refl
    & wrapped_row [] (head_of 0 (zeros 63) 409600 0 0 0 0 0 0x100) 0 0 refl refl
    & row
    & end

-- ---- equal bytes

twin_row : (ps : List (ℕ × ℕ)) → every (λ p. paired p.0 p.1) ps ≡ true → Right (twins ps)
unfolding Right
twin_row ps h i l c =
    let p = get_or ps i (0, 0) in
    let q = every_at (λ x. paired x.0 x.1) (0, 0) ps h i l in
    (lower_twin p.0 p.1 c q, upper_twin p.0 p.1 c q)

alone_row : (bs : List ℕ) → every unpaired bs ≡ true → Right (alone bs)
unfolding Right
alone_row bs h i l c = only_itself (get_or bs i 0) c (every_at unpaired 0 bs h i l)

accented_right : AllRight accented
unfolding everything unpaired accented
accented_right =
    twin_row letters_listed refl & twin_row pairs_listed refl & alone_row others_low refl & alone_row others_high refl
    & row & row & row & row & row & row & row & row & row & row & row & row & end

pub further : FurtherCases
unfolding everything telling long_names threes renamings clumped quick_finds last_pair FurtherCases
further = (
  row & row & row & row & row & row & row & row & row & end,
  row & row & row & row & row & row & row & row & row & row & row & end,
  containers_right,
  accented_right,
  row & row & row & row & row & row & looked & looked & looked & looked & looked & looked & refl & refl & refl & refl & end,
  row & row & row & row & row & row & row & row & row & row & row & row & row & end,
  refl & refl & refl & refl & refl & refl & refl & refl & refl & refl & refl & refl & refl & refl & refl & refl & refl & refl & refl & refl
      & row & row & row & row & row & end,
  row & row & row & row & row & row & row & row & end,
)
