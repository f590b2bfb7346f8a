-- UTF-8 with ASCII after it is UTF-8.
use Rattle.std.proofs.Common.{arith, ◌∙◌}
use Rattle.std.specs.String.{string_bytes}
use Rattle.std.proofs.lemmas.Str.{IsUtf8-append, IsUtf8-from_ascii, IsUtf8-string_bytes}
use Rattle.byte_unit_format.specs.TextParts.{parts_text}
use Rattle.byte_unit_format.proofs.parts.with_parts.Goals as goal

pub from_utf8_unchecked-requires : goal.from_utf8_unchecked-requires
from_utf8_unchecked-requires g c =
    let both = IsUtf8-append (string_bytes c.args.text) (parts_text c.args.parts) (IsUtf8-string_bytes c.args.text)
    (IsUtf8-from_ascii (parts_text c.args.parts) c.push.ensures.ascii) in
    (both.0, (both.1.0, both.1.1 ∙ grind arith))
