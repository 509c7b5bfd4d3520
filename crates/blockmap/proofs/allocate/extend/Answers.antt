-- `extend` meets its contract: what stands is not stored again. Assumes nothing.
use Prim.Native.Nat.{suc, ◌-◌, ◌≤◌}
use mathlib.Core.Path.{◌≡◌, sym, ap, subst, ◌∙◌}
use mathlib.Core.Bool.{true}
use native.Mathlib.Omega.{arith}
use lib.ListN.{length, take}
use Rattle.model.specs.Bytes.{Bytes}
use Rattle.model.specs.Lists.{first_or0}
use Rattle.model.specs.Map.{map_entry, runs, blocks_free, put_chain}
use Rattle.laws.proofs.Entries.{length_set_entry}
use Rattle.blockmap.specs.Free.{free_from}
use Rattle.blockmap.proofs.Linking.{free_all}
use Rattle.blockmap.proofs.Changes.{free_from_lem, first_new, first_old, no_chain, none_taken, none_first, ext_requires, ext_leaves}
use Rattle.blockmap.proofs.allocate.extend.Goals as goal

pub returns-then-k-eq0 : goal.returns-then-k-eq0
unfolding Bytes
returns-then-k-eq0 c =
    let a = c.args in
    let l = a.image.now in
    record {
      after = none_taken a.n l a.k a.s.0 a.need (λ i. omega (arith, c.type_inv.image i)) c.requires.2 c.if-need-eq0.true;
      start = sym (none_first (map_entry l) a.k a.s.0 (blocks_free (map_entry l) a.n) a.need c.if-k-eq0.true c.if-need-eq0.true);
    }

pub returns-then-need-eq0 : goal.returns-then-need-eq0
unfolding Bytes
returns-then-need-eq0 c =
    let a = c.args in
    let l = a.image.now in
    record {
      after = none_taken a.n l a.k a.s.0 a.need (λ i. omega (arith, c.type_inv.image i)) c.requires.2 c.if-need-eq0.true;
      start = sym (first_old (map_entry l) a.k a.s.0 (take a.need (blocks_free (map_entry l) a.n)) (omega arith));
    }

pub next_free-first-requires : goal.next_free-first-requires
next_free-first-requires c =
    let all = ap length (free_all (map_entry c.args.image.now) c.args.n) in
    (c.requires.0, c.requires.1, omega arith, omega (arith, c.requires.3))

pub join_free-requires : goal.join_free-requires
join_free-requires c =
    let some : 1 ≤ c.args.need = omega arith in
    let a = c.args in
    let p = c.requires in
    let f = c.next_free-first.ensures in
    let enough : a.need ≤ length (free_from (map_entry a.image.now) a.n c.next_free-first.result.0) =
    omega (arith, p.3, ap length (free_from_lem (map_entry a.image.now) a.n c.next_free-first.result.0 f)) in
    (p.0, p.1, f.low, f.high, f.free, some, enough)

pub returns-then-k-eq0-2 : goal.returns-then-k-eq0-2
returns-then-k-eq0-2 c =
    let some : 1 ≤ c.args.need = omega arith in
    let a = c.args in
    let l = a.image.now in
    let e = map_entry l in
    let f = c.next_free-first.ensures in
    let x = c.next_free-first.result.0 in
    let q = no_chain e a.k a.s.0 (take a.need (blocks_free e a.n)) c.if-k-eq0-2.true in record {
      after = c.join_free.ensures ∙ ap (put_chain l) (ap (take a.need) (sym (free_from_lem e a.n x f)) ∙ sym q);
      start = sym (ap first_or0 q ∙ (first_new e a.n x a.need f some).1);
    }

pub join_free-requires-2 : goal.join_free-requires-2
join_free-requires-2 c =
    let some : 1 ≤ c.args.need = omega arith in
    let a = c.args in
    let count : a.k ≡ suc (a.k - 1) = omega arith in
    let chain = subst (λ j. runs (map_entry a.image.now) a.n j a.s.0 ≡ true) count (c.requires.2 (omega arith)) in
    let stands = c.block_at-last.ensures.stands (suc (a.k - 1)) (omega arith) in
    let p = c.requires in
    let f = c.next_free-first.ensures in
    let x = c.next_free-first.result.0 in
    let st = c.store in
    let r = ext_requires a.n a.image.now (a.k - 1) a.s.0 x p.0 p.1 chain f
    c.block_at-last.result.0 st.new.image a.need stands st.ensures p.3 in
    let big : 2048 ≤ length st.new.image = omega (arith, p.1, ap length st.ensures, length_set_entry a.image.now c.block_at-last.result.0 x) in
    (p.0, big, f.low, f.high, r.0, some, r.1)

pub returns : goal.returns
unfolding Bytes
returns c =
    let bytes : Bytes c.args.image.now = λ i. omega (arith, c.slice_known-1.given i) in
    let some : 1 ≤ c.args.need = omega arith in
    let a = c.args in
    let count : a.k ≡ suc (a.k - 1) = omega arith in
    let chain = subst (λ j. runs (map_entry a.image.now) a.n j a.s.0 ≡ true) count (c.requires.2 (omega arith)) in
    let stands = c.block_at-last.ensures.stands (suc (a.k - 1)) (omega arith) in
    let p = c.requires in
    let f = c.next_free-first.ensures in
    let x = c.next_free-first.result.0 in
    let l = a.image.now in
    let st = c.store in record {
      after = c.join_free-2.ensures
          ∙ ext_leaves a.n l (a.k - 1) a.s.0 x p.0 p.1 chain f
          a.k c.block_at-last.result.0 st.new.image a.need bytes some count stands st.ensures;
      start = sym (first_old (map_entry l) a.k a.s.0 (take a.need (blocks_free (map_entry l) a.n)) (omega arith));
    }
