-- `listing::write_pairs_with` meets its contract: the pairs that are left, written from here on, give what the whole gives.
use mathlib.Core.Path.{◌≡◌, refl, sym, ap, subst, ◌∙◌}
use Prim.Native.Nat.{◌+◌, ◌≤◌, ◌<◌}
use mathlib.Core.List.{[], ◌∷◌, map}
use native.Mathlib.Omega.{arith}
use lib.ListN.{length, drop}
use Rattle.meeting.specs.Meeting.{pair, pair_words}
use Rattle.stations.specs.Counting.{present_from}
use Rattle.listing.specs.declared.Output.{Output}
use Rattle.listing.specs.Listing.{wrote}
use Rattle.listing.proofs.Continuing.{Continues, begins, next_room, goes_on_lem, all_written_lem, none_wrote}
use Rattle.listing.proofs.Pairing.{with_none, with_some, pair_next, pair_passed, no_words_behind}
use Rattle.listing.proofs.write_pairs_with.Goals as goal
use Rattle.listing.proofs.write_pairs_with.Goals.{then-counts-higher-ne0, else-counts-higher-ne0}

pub returns-then-counts-lower-eq0 : goal.returns-then-counts-lower-eq0
unfolding pair_words
returns-then-counts-lower-eq0 c =
    (none_wrote c.args.out.now.words.now c.args.out.now.at ∙ ap (λ l. wrote c.args.out.now.words.now c.args.out.now.at (pair_words l)) (sym (with_none c.args.counts c.args.lower c.if-counts-lower-eq0.true)), refl)

pub loop-higher-init : goal.loop-higher-init
loop-higher-init c =
    (begins c.args.out.now.words.now c.args.out.now.at _ (subst (λ l. c.args.out.now.at + length (pair_words l) ≤ length c.args.out.now.words.now) (with_some c.args.counts c.args.lower c.if-counts-lower-eq0.false) c.requires.1), refl)

pub put_two-requires : goal.put_two-requires
put_two-requires c =
    let loop = c.loop-higher in
    let later = pair_words (map (pair c.args.lower) (present_from (loop.higher + 1) (drop (loop.higher + 1) c.args.counts))) in
    next_room _ _ _ _ _ _ loop.invariant.0 (c.args.lower ∷ loop.higher ∷ []) later (pair_next c.args.counts c.args.lower loop.higher (omega (arith, c.loop-higher-test.true)) c.if-counts-higher-ne0.true)

pub loop-higher-preserved : goal.loop-higher-preserved
loop-higher-preserved c =
    let loop = c.loop-higher in
    let lower = c.args.lower in
    let counts = c.args.counts in
    let before = c.args.out.now in
    let whole = pair_words (map (pair lower) (present_from (lower + 1) (drop (lower + 1) counts))) in
    let later = pair_words (map (pair lower) (present_from (loop.higher + 1) (drop (loop.higher + 1) counts))) in
    let inside : loop.higher < length counts = omega (arith, c.loop-higher-test.true) in
    let Kept : Output → Type 0 = λ out. Continues out.words.now out.at later before.words.now before.at whole × (out.words.ghost_name ≡ before.words.ghost_name) in
    elim c.if-counts-higher-ne0.branch [
      | then-counts-higher-ne0 w ↦
          subst Kept (sym w.out-is)
          (goes_on_lem _ _ _ _ _ _ loop.invariant.0 (lower ∷ loop.higher ∷ []) later (pair_next counts lower loop.higher inside w.if-counts-higher-ne0.true) _ _ w.put_two.ensures.0, w.put_two.ensures.1 ∙ loop.invariant.1)
      | else-counts-higher-ne0 w ↦
          subst Kept (sym w.out-is)
          (goes_on_lem _ _ _ _ _ _ loop.invariant.0 [] later (pair_passed counts lower loop.higher inside w.if-counts-higher-ne0.false) _ _ (none_wrote _ _), loop.invariant.1)
    ]

pub returns : goal.returns
returns c =
    let loop = c.loop-higher in (
      all_written_lem _ _ _ _ _ _ loop.invariant.0 (no_words_behind c.args.lower loop.higher c.args.counts (omega (arith, c.loop-higher-test.false)))
          ∙ ap (λ l. wrote c.args.out.now.words.now c.args.out.now.at (pair_words l)) (sym (with_some c.args.counts c.args.lower c.if-counts-lower-eq0.false)),
      loop.invariant.1,
    )
