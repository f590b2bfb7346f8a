-- What a record gives: text, messages, and sizes.
use Rattle.std.specs.Prelude.{◌≡◌, ℕ, zero, suc, ◌+◌, ⊤, true, false, List, [], ◌∷◌, ◌++◌, None, Some, length, map}
use Rattle.std.specs.List.{flat_map}
use Rattle.byte_unit_command.specs.Field.{Found, IsNoSize, IsPlaced, IsSize}
use Rattle.byte_unit_command.specs.Fields.{fields_of, between_of}
use Rattle.byte_unit_command.specs.Messages.{AreLimitMessages, IsRejectMessage}
use Rattle.byte_unit_command.specs.Ranges.{IsChosenField}
use Rattle.byte_unit_command.specs.State.{Context}
use Rattle.byte_unit_command.specs.Sums.{has_rejected}
use Rattle.byte_unit_command.specs.declared.options.Invalid.TheVariants.{Abort}
use Rattle.byte_unit_command.specs.declared.options.Options.{Options}

-- what is written for a field or a record, what is found in it, and the messages about it
pub record Output : Type 0 where
  pub text : List ℕ
  pub found : List Found
  pub messages : List ℕ

-- what is copied: nothing is found in it
abbrev pub copied : List ℕ → Output
copied text = record { text = text; found = []; messages = [] }

-- what the field with this number gives: a field that is not chosen is copied; a size is replaced by its text, with
-- messages if it is beyond a limit; a field that is not a size is copied too, with the message about it
pub data IsFieldOutput (context : Context) (number : ℕ) (field : List ℕ) (output : Output) : Type 0 where
  other : ¬ IsChosenField context.options.fields.now number → output ≡ copied field
      → IsFieldOutput context number field output
  size : (n : ℕ) (text messages : List ℕ) → IsChosenField context.options.fields.now number
      → IsSize context.options field n → IsPlaced context.options number field n text
      → AreLimitMessages context number field n messages
      → output ≡ record { text = text; found = Some n ∷ []; messages = messages }
      → IsFieldOutput context number field output
  rejected : (messages : List ℕ) → IsChosenField context.options.fields.now number → IsNoSize context.options field
      → IsRejectMessage context number field messages
      → output ≡ record { text = field; found = None ∷ []; messages = messages }
      → IsFieldOutput context number field output

-- what these fields give, the first of which has this number
abbrev pub AreFieldOutputs : Context → ℕ → List (List ℕ) → List Output → Type 0
AreFieldOutputs context number [] [] = ⊤
AreFieldOutputs context number [] (output ∷ outputs) = ⊥
AreFieldOutputs context number (field ∷ fields) [] = ⊥
AreFieldOutputs context number (field ∷ fields) (output ∷ outputs) =
    IsFieldOutput context number field output × AreFieldOutputs context (number + 1) fields outputs

-- texts with these bytes between each two
abbrev pub joined : List ℕ → List (List ℕ) → List ℕ
joined between [] = []
joined between (text ∷ []) = text
joined between (text ∷ next ∷ texts) = text ++ between ++ joined between (next ∷ texts)

-- all that is found in these fields
abbrev pub found_in : List Output → List Found
found_in outputs = flat_map (λ output. output.found) outputs

-- all messages about them
abbrev pub messages_in : List Output → List ℕ
messages_in outputs = flat_map (λ output. output.messages) outputs

-- what fields give together, with these bytes between each two texts
abbrev pub together : List ℕ → List Output → Output
together between outputs = record {
  text = joined between (map (λ output. output.text) outputs);
  found = found_in outputs;
  messages = messages_in outputs;
}

-- what a record gives, without its end byte, if this number of header records begins with it: a header record is
-- copied, and of any other the chosen fields are replaced
abbrev pub IsRecord : Context → ℕ → List ℕ → Output → Type 0
IsRecord context zero bytes output =
    (outputs : List Output) × AreFieldOutputs context 1 (fields_of context.options bytes) outputs
    × (output ≡ together (between_of context.options) outputs)
IsRecord context (suc _) bytes output = output ≡ copied bytes

-- the messages about these fields up to the first one that is rejected, which is one of them
pub record AreMessagesToRejected (context : Context) (number : ℕ) (fields : List (List ℕ)) (messages : List ℕ)
    : Type 0 where
  pub before : List (List ℕ)
  pub field : List ℕ
  pub after : List (List ℕ)
  pub outputs : List Output
  pub own : Output
  pub fields_are : fields ≡ before ++ field ∷ after
  pub are_fields : AreFieldOutputs context number before outputs
  pub none_before : has_rejected (found_in outputs) ≡ false
  pub is_field : IsFieldOutput context (number + length before) field own
  pub is_rejected : has_rejected own.found ≡ true
  pub messages_are : messages ≡ messages_in outputs ++ own.messages

-- in the mode `abort`, nothing that was found is rejected
abbrev pub Passes : Options → List Found → Type 0
Passes options found = options.invalid ≡ Abort → has_rejected found ≡ false
