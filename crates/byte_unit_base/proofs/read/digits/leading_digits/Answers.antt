-- The digits among the first eight bytes, and, if all of these are digits or there are fewer bytes, those after them.
-- The bytes before the first that is no digit, moved to the end, are eight digits.
use Rattle.std.proofs.Common.{◌≡◌, ℕ, ◌<◌, ◌≤◌, ◌-◌, ◌*◌, ◌%◌, ◌^◌, length, ap, subst, sym, ◌∙◌, arith, bit_xor}
use Rattle.core.proofs.dec2flt.Eight.{lanes_are, all_digits, first_other, shifted_is, bytes_up}
use Rattle.core.proofs.slice.Flagged.{flags_from_ten}
use lib.Bits.{xor_lt}
use Rattle.byte_unit_base.proofs.Lines.{HasDigits, loaded_word, digits_of_word, no_digits, value_of_more}
use Rattle.byte_unit_base.proofs.read.digits.leading_digits.Goals.{Joined-bytes-from-ge8}
use Rattle.byte_unit_base.proofs.read.digits.leading_digits.Goals.{then-bytes-from-ge8+else-others-ne0}
use Rattle.byte_unit_base.proofs.read.digits.leading_digits.Goals.{else-bytes-from-ge8}
use Rattle.byte_unit_base.proofs.read.digits.leading_digits.Given.{Over}
use Rattle.byte_unit_base.proofs.read.digits.leading_digits.Goals as goal

-- the two shifts move the first `count` bytes to the end
moved_up : (digits lanes count : ℕ) → count < 8 → digits ≡ lanes
    → digits * 2 ^ (56 - 8 * count) % 2 ^ 64 * 256 % 2 ^ 64 ≡ lanes * 256 ^ (8 - count) % 2 ^ 64
moved_up digits lanes count few is = bytes_up digits count few ∙ ap (λ d. d * 256 ^ (8 - count) % 2 ^ 64) is

-- the digits that are read when `read_digits` is called: eight, or none. `loaded` says that the eight bytes are bytes,
-- and that the word is their number; `s` is the list of their eight digits, that these are digits and in the word, and
-- the value of the list
so_far : (g : Over) (c : Joined-bytes-from-ge8 g)
    → HasDigits c.args.line.now c.args.from c.if-bytes-from-ge8.start c.if-bytes-from-ge8.value
so_far g c =
    let line = c.args.line.now in
    let from = c.args.from in
    elim c.if-bytes-from-ge8.branch [
      | then-bytes-from-ge8+else-others-ne0 w ↦
          let word = w.load_eight-digits.result in
          let many : 8 ≤ length c.args.bytes.now - from = omega (arith, w.if-bytes-from-ge8) in
          let loaded = loaded_word c.args.bytes.now from word c.type_inv.bytes many w.load_eight-digits.ensures in
          let digits = bit_xor word 0x3030_3030_3030_3030 in
          let all = all_digits _ _ loaded.0 loaded.1 _ (flags_from_ten digits) (omega (arith, w.if-others-ne0)) in
          let lanes = lanes_are _ _ loaded.0 loaded.1 in
          let small = xor_lt 64 word 0x3030_3030_3030_3030 w.load_eight-digits.type_inv (omega arith) in
          let s = shifted_is _ 8 digits loaded.0 (omega arith) (omega arith) (omega arith) in
          let value = w.value-is ∙ (w.value_of_eight-value-then-bytes-from-ge8.ensures s.0 s.1 s.2 ∙ s.3) in
          subst (λ end. HasDigits line from end c.if-bytes-from-ge8.value) (sym w.start-is)
          (digits_of_word line c.args.bytes.now from 8 _ c.requires.line c.requires.from loaded.0.0 (sym all) value).0
      | else-bytes-from-ge8 w ↦
          subst (λ end. HasDigits line from end c.if-bytes-from-ge8.value) (sym w.start-is)
          (subst (λ value. HasDigits line from from value) (sym w.value-is) (no_digits line from c.requires.from))
    ]

-- a byte among the first eight is no digit: `first` says how many are before it, and that they are fewer than eight;
-- `s` is as in `so_far`, of the bytes before it moved to the end, and `found` says that they are the digits
pub returns-then-others-ne0 : goal.returns-then-others-ne0
returns-then-others-ne0 g c =
    let word = c.load_eight-digits.result in
    let from = c.args.from in
    let loaded = loaded_word c.args.bytes.now from word c.type_inv.bytes c.if-bytes-from-ge8.true
    c.load_eight-digits.ensures in
    let digits = bit_xor word 0x3030_3030_3030_3030 in
    let first = first_other _ _ loaded.0 loaded.1 _ (flags_from_ten digits) (omega (arith, c.if-others-ne0.true)) in
    let lanes = lanes_are _ _ loaded.0 loaded.1 in
    let s = shifted_is _ _ _ loaded.0 (omega arith) (omega arith) (moved_up digits _ _ first.1 lanes) in
    let found = digits_of_word c.args.line.now c.args.bytes.now from _ _ c.requires.line c.requires.from loaded.0.0
    (sym first.0) (c.value_of_eight-value.ensures s.0 s.1 s.2 ∙ s.3) in
    record {
      end = omega (arith, found.1 first.1);
      bound = found.0.within;
      value = omega (arith, found.0.value_is);
    }

-- the digits so far end within the line
pub read_digits-requires : goal.read_digits-requires
read_digits-requires g c = (so_far g c).within

-- the end is that of the digits so far and of those after them
pub returns-clause-end : goal.returns-clause-end
returns-clause-end g c =
    let digits = so_far g (goal.at.returns-clause-end g c).Joined-bytes-from-ge8 in
    omega (arith, c.read_digits.ensures.end, digits.more, digits.after)

-- the last 64 bits are those of the value of the digits so far and of those after them
pub returns-clause-value : goal.returns-clause-value
returns-clause-value g c =
    let digits = so_far g (goal.at.returns-clause-value g c).Joined-bytes-from-ge8 in
    let run = c.read_digits in
    run.ensures.value ∙ ap (λ n. n % 2 ^ 64)
    (value_of_more _ _ _ _ run.result.0 digits (omega (arith, run.ensures.end)) run.ensures.within)
