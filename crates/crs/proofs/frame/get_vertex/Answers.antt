-- `frame::get_vertex` meets its contract: a row that is near is the first, and after one that isn't the rest decides. Assumes nothing.
use mathlib.Core.Path.{◌≡◌, refl, sym, ap, ◌∙◌}
use Prim.Native.Nat.{◌+◌, ◌*◌}
use native.Mathlib.Omega.{arith}
use lib.ListN.{drop}
use Rattle.arithmetic.specs.Arith.{ieee}
use Rattle.answer.specs.Given.{answered}
use Rattle.crs.specs.Frame.{near, find_vertex}
use Rattle.crs.proofs.Search.{found, missed, at_end}
use Rattle.crs.proofs.Chunks.{chunk_row}
use Rattle.crs.proofs.frame.get_vertex.Goals as goal

pub loop-x-init : goal.loop-x-init
loop-x-init c = refl

pub returns-then-near : goal.returns-then-near
returns-then-near c =
    let rows = c.args.frame.now in
    let i = c.loop-x.x-index in
    let row = chunk_row rows c.as_chunks.result.0.now i c.as_chunks.ensures.front (omega (arith, c.as_chunks.ensures.front_len)) in
    let hit = ap (near ieee c.args.point) (sym row) ∙ sym c.near.ensures ∙ c.if-near.true in
    ap answered row ∙ sym (found ieee rows c.args.point (3 * i) (omega (arith, c.as_chunks.ensures.front_len)) hit) ∙ c.loop-x.invariant

pub loop-x-preserved : goal.loop-x-preserved
loop-x-preserved c =
    let rows = c.args.frame.now in
    let i = c.loop-x.x-index in
    let row = chunk_row rows c.as_chunks.result.0.now i c.as_chunks.ensures.front (omega (arith, c.as_chunks.ensures.front_len)) in
    let miss = ap (near ieee c.args.point) (sym row) ∙ sym c.near.ensures ∙ c.if-near.false in
    let next : 3 * (i + 1) ≡ 3 * i + 3 = omega arith in
    ap (λ n. find_vertex ieee (drop n rows) c.args.point) next
    ∙ sym (missed ieee rows c.args.point (3 * i) (omega (arith, c.as_chunks.ensures.front_len)) miss)
    ∙ c.loop-x.invariant

pub returns : goal.returns
returns c =
    let rows = c.args.frame.now in
    sym (at_end ieee rows c.args.point (3 * c.loop-x.x-index) (omega (arith, c.as_chunks.ensures.front_len))) ∙ c.loop-x.invariant
