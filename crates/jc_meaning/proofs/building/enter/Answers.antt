use Rattle.std.proofs.Common.{◌≡◌, ◌<◌, length, arith, take}
use Rattle.jc_meaning.proofs.GrowthPathLemmas.{grown_place, still_place, contexts_taken, enter_on, end_place}
use Rattle.jc_meaning.proofs.building.enter.Goals as goal

pub make-requires : goal.make-requires
make-requires g c = grown_place (take c.loop-depth.depth c.as_slice-path.result.now) _ _ _ _ (contexts_taken c.args.op.now.cursor.path c.as_slice-path.result.now c.loop-depth.depth c.as_slice-path.ensures.keys c.as_slice-path.ensures.path) c.loop-depth.invariant

pub touch-requires : goal.touch-requires
touch-requires g c = still_place (take c.loop-depth.depth c.as_slice-path.result.now) _ _ _ _ _ _ _ _ (contexts_taken c.args.op.now.cursor.path c.as_slice-path.result.now c.loop-depth.depth c.as_slice-path.ensures.keys c.as_slice-path.ensures.path) c.loop-depth.invariant c.in_ok-make.ensures

pub loop-depth-preserved : goal.loop-depth-preserved
loop-depth-preserved g c =
    let within : c.loop-depth.depth < length c.as_slice-path.result.now = omega arith in
    enter_on c.args.ops.now c.args.op.now c.as_slice-path.result.now c.loop-depth.depth c.index-path-depth.result c.key.result.now _ _ _ _ within c.index-path-depth.is c.key.ensures c.loop-depth.invariant c.in_ok-make.ensures c.in_ok-touch.ensures

pub returns-clause-there : goal.returns-clause-there
returns-clause-there g c =
    let whole : c.loop-depth.depth ≡ length c.as_slice-path.result.now = omega arith in
    end_place c.args.op.now.cursor.path c.as_slice-path.result.now c.loop-depth.depth _ _ _ _ c.as_slice-path.ensures.keys c.as_slice-path.ensures.path whole c.loop-depth.invariant
