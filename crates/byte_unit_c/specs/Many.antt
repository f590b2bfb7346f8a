-- Many texts in one call: text i is from offset i up to offset i + 1.
use Rattle.std.specs.Prelude.{◌≡◌, ℕ, ◌+◌, ◌-◌, ◌<◌, ℤ, pos, negsuc, ◌≤ℤ◌, Bool, List, [], ◌∷◌, length}
use Rattle.std.specs.Prelude.{slice_index, slice_index_or, slice_range, Option, Some, None, Result, Ok, Err}
use Rattle.std.specs.Prelude.{IfSome, IfNone}
use Rattle.byte_unit_base.specs.Errors.Meaning.{size_fault}
use Rattle.byte_unit_base.specs.Reading.Results.{IsBytesReadingAs}
use Rattle.byte_unit_base.specs.declared.errors.ParseError.{ParseError}
use Rattle.byte_unit_base.specs.declared.spec.ParseSpec.{ParseSpec}
use Rattle.byte_unit_c.specs.declared.offsets.Offsets.{Offsets}
use Rattle.byte_unit_c.specs.declared.offsets.Offsets.TheVariants.{Long, Short}
use Rattle.byte_unit_c.specs.declared.values.Number.{Number}
use Rattle.byte_unit_c.specs.Flags.{any_spec_at}
use Rattle.byte_unit_c.specs.Values.{number_of}
use Rattle.byte_unit_c.specs.Error.{ok, invalid_argument, code_of, not_utf8}

-- the offsets, of 64 or of 32 bits
abbrev pub offsets_of : Offsets → List ℤ
offsets_of (Long offsets) = offsets.now
offsets_of (Short offsets) = offsets.now

-- low ≤ o₀ ≤ o₁ ≤ .. ≤ high: no offset is below the one before it
abbrev pub Ascends : ℤ → ℤ → List ℤ → Type 0
Ascends low high [] = low ≤ℤ high
Ascends low high (offset ∷ rest) = (low ≤ℤ offset) × Ascends offset high rest

-- the offsets ascend from 0 to the number of bytes at most, and there is a size and a code for each text. There is one
-- text fewer than offsets, or no text and no offset
pub record IsLayout (bytes_len : ℕ) (offsets : List ℤ) (sizes_len codes_len : ℕ) : Type 0 where
  pub ascends : Ascends (pos 0) (pos bytes_len) offsets
  pub sizes_fit : sizes_len ≡ length offsets - 1
  pub codes_fit : codes_len ≡ length offsets - 1

-- an offset as a position in the bytes
abbrev pub position : ℤ → ℕ
position (pos n) = n
position (negsuc n) = 0

-- the bytes of text i
abbrev pub text_at : List ℕ → List ℤ → ℕ → List ℕ
text_at bytes offsets i =
    slice_range bytes (position (slice_index_or offsets i (pos 0))) (position (slice_index_or offsets (i + 1) (pos 0)))

-- 0 with the size, the code of the error, or 6 if the bytes are not UTF-8; without a size, the number is 0
abbrev pub IsCoded : Option (Result ℕ ParseError) → ℕ → ℕ → Type 0
IsCoded None code size = (code ≡ not_utf8) × (size ≡ 0)
IsCoded (Some (Ok n)) code size = (code ≡ ok) × (size ≡ n)
IsCoded (Some (Err e)) code size = (code ≡ code_of (size_fault e)) × (size ≡ 0)

-- the code and the size are those of parsing the bytes so
abbrev pub IsParsed : ParseSpec → List ℕ → ℕ → Number → Type 0
IsParsed spec bytes code size =
    (answer : Option (Result ℕ ParseError)) × IsBytesReadingAs spec bytes answer
    × IsCoded answer code (number_of size)

-- the number zero
abbrev pub zero_number : Number
zero_number = record { low = 0; high = 0 }

-- each of the first n texts has its code and its size
abbrev pub AreParsed : ParseSpec → List ℕ → List ℤ → ℕ → List ℕ → List Number → Type 0
AreParsed spec bytes offsets n codes sizes =
    (i : ℕ) → i < n
    → IsParsed spec (text_at bytes offsets i) (slice_index codes i) (slice_index_or sizes i zero_number)

-- the call is rejected: an argument is invalid, and nothing is written
abbrev pub IsRejectedCall : ℕ → List Number → List Number → List ℕ → List ℕ → Type 0
IsRejectedCall code sizes sizes' codes codes' = (code ≡ invalid_argument) × (sizes' ≡ sizes) × (codes' ≡ codes)

-- what a call with these flags and offsets returns and writes, for texts in these bytes
pub record AreManyReturned
    (flags : ℕ) (bytes : List ℕ) (offsets : List ℤ) (code : ℕ) (sizes sizes' : List Number) (codes codes' : List ℕ)
    : Type 0 where
  pub parsed : IfSome (any_spec_at flags) (λ spec. IsLayout (length bytes) offsets (length sizes) (length codes)
      → (code ≡ ok) × AreParsed spec bytes offsets (length codes) codes' sizes')
  pub unknown_flag : IfNone (any_spec_at flags) (IsRejectedCall code sizes sizes' codes codes')
  pub no_layout : ¬ IsLayout (length bytes) offsets (length sizes) (length codes)
      → IsRejectedCall code sizes sizes' codes codes'
