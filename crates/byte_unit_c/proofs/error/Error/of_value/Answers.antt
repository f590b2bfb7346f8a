-- Each error of a number has its code and its details.
use Rattle.std.proofs.Common.{◌≡◌, sym, subst, refl}
use Rattle.byte_unit_base.specs.Errors.Meaning.{value_fault}
use Rattle.byte_unit_base.specs.declared.errors.ValueParseError.{ValueParseError}
use Rattle.byte_unit_c.specs.declared.error.Error.{Error}
use Rattle.byte_unit_c.specs.Error.{IsErrorOf}
use Rattle.byte_unit_c.proofs.Zeros.{zero_parts}
use Rattle.byte_unit_c.proofs.error.Error.of_value.Goals as goal

-- `IsErrorOf` holds of an error if it holds of an equal one
tells : (error is : ValueParseError) (details : Error) → error ≡ is → IsErrorOf (value_fault is) details
    → IsErrorOf (value_fault error) details
tells error is details e given = subst (λ x. IsErrorOf (value_fault x) details) (sym e) given

-- of a number that exceeds its bounds, the details have the number
pub returns-in-ExceededBounds-clause-details : goal.returns-in-ExceededBounds-clause-details
returns-in-ExceededBounds-clause-details c =
    tells c.args.error _ _ c.in-ExceededBounds.is
    (record { character_is = refl; expected_is = refl; may_end_is = refl; number_is = c.new-number.ensures })

-- of `NotNumber`, the details have its character
pub returns-in-NotNumber-clause-details : goal.returns-in-NotNumber-clause-details
returns-in-NotNumber-clause-details c =
    tells c.args.error _ _ c.in-NotNumber.is
    (record { character_is = refl; expected_is = refl; may_end_is = refl; number_is = zero_parts })

-- of `NoValue`, all details but the position are zero
pub returns-in-NoValue-clause-details : goal.returns-in-NoValue-clause-details
returns-in-NoValue-clause-details c =
    tells c.args.error _ _ c.in-NoValue.is
    (record { character_is = refl; expected_is = refl; may_end_is = refl; number_is = zero_parts })

-- of a number that is too long, all details but the position are zero
pub returns-in-NumberTooLong-clause-details : goal.returns-in-NumberTooLong-clause-details
returns-in-NumberTooLong-clause-details c =
    tells c.args.error _ _ c.in-NumberTooLong.is
    (record { character_is = refl; expected_is = refl; may_end_is = refl; number_is = zero_parts })
