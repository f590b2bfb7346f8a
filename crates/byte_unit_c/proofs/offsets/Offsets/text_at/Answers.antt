-- Two offsets in a row that ascend within the data are the ends of a part of it.
use Rattle.std.proofs.Common.{rules, arith, ◌∙◌, ap, ◌+◌, pos, get_or, length, slice_range}
use Rattle.byte_unit_c.specs.Many.{offsets_of, position}
use Rattle.byte_unit_c.proofs.Ascending.{as_read, is_position, between, rises, positions}
use Rattle.byte_unit_c.proofs.offsets.Offsets.text_at.Goals as goal

-- the offset where the text begins is not negative
pub position-begin-requires : goal.position-begin-requires
position-begin-requires c =
    is_position c.at.result _ _ c.args.i (search rules) c.at.ensures c.requires.ascends (omega (arith, c.requires.bound))

-- the offset where it ends is not negative
pub position-end-requires : goal.position-end-requires
position-end-requires c =
    is_position c.at-2.result _ _ (c.args.i + 1) (search rules) c.at-2.ensures c.requires.ascends c.requires.bound

-- the text begins no later than it ends, and ends within the data
pub part-requires : goal.part-requires
part-requires c =
    let xs = offsets_of c.args.self in
    let begin = get_or xs c.args.i (pos 0) in
    let end = get_or xs (c.args.i + 1) (pos 0) in
    let high = pos (length c.args.data.now) in
    let begin_is = c.position-begin.ensures ∙ ap position (as_read c.at.result begin (search rules) c.at.ensures) in
    let end_is = c.position-end.ensures ∙ ap position (as_read c.at-2.result end (search rules) c.at-2.ensures) in
    let ordered = positions begin end (rises (pos 0) high xs c.args.i c.requires.ascends c.requires.bound) in
    let within = positions end high (between (pos 0) high xs (c.args.i + 1) c.requires.ascends c.requires.bound).1 in
    record { ordered = omega (arith, begin_is, end_is, ordered); bound = omega (arith, end_is, within) }

-- the part of the data between the two positions is the text
pub returns : goal.returns
returns c =
    let xs = offsets_of c.args.self in
    let begin = get_or xs c.args.i (pos 0) in
    let end = get_or xs (c.args.i + 1) (pos 0) in
    let begin_is = c.position-begin.ensures ∙ ap position (as_read c.at.result begin (search rules) c.at.ensures) in
    let end_is = c.position-end.ensures ∙ ap position (as_read c.at-2.result end (search rules) c.at-2.ensures) in
    c.part.ensures
    ∙ ap (λ b. slice_range c.args.data.now b c.position-end.result) begin_is
    ∙ ap (λ e. slice_range c.args.data.now (position begin) e) end_is
