use Rattle.std.proofs.Common.{refl, arith, ◌<◌, ◌≤◌, length}
use Rattle.std.specs.Prelude.{flat_map}
use Rattle.typed_tree.specs.Entries.{entries_of_block}
use Rattle.cert_checker.proofs.Steps.{counted-end, counted-step}
use Rattle.cert_checker.proofs.StepsBlocks.{blocks-end, blocks-step}
use Rattle.cert_checker.proofs.walk.Walk.blocks.Goals as goal

pub loop-number-init : goal.loop-number-init
loop-number-init g c = (λ new passes. passes, refl)

pub loop-number-preserved : goal.loop-number-preserved
loop-number-preserved g c =
    let here = c.loop-number in
    let blocks = c.args.tree.now.blocks.items in
    let block = c.index-block.result.now in
    let inside : here.number < length blocks = omega (arith, c.loop-number-test.true, c.requires) in (
      λ new passes. here.invariant.0 new
          (blocks-step blocks here.number block c.args.declared.now inside c.index-block.ensures c.block.ensures.goes passes),
      counted-step g.C.Count.counted (flat_map entries_of_block) entries_of_block (λ x xs. refl) blocks here.number block _ inside c.index-block.ensures
          c.block.ensures.counts here.invariant.1,
    )

pub returns-clause-goes : goal.returns-clause-goes
returns-clause-goes g c =
    let here = c.loop-number in
    let blocks = c.args.tree.now.blocks.items in
    let past : length blocks ≤ here.number = omega (arith, c.loop-number-test.false, c.requires) in
    here.invariant.0 here.self (blocks-end blocks here.number c.args.declared.now here.self past)

pub returns-clause-counts : goal.returns-clause-counts
returns-clause-counts g c =
    let here = c.loop-number in
    let blocks = c.args.tree.now.blocks.items in
    let past : length blocks ≤ here.number = omega (arith, c.loop-number-test.false, c.requires) in
    counted-end g.C.Count.counted (flat_map entries_of_block) entries_of_block (λ x xs. refl) blocks here.number _ past refl here.invariant.1
