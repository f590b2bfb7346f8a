-- Out of memory before the first read, a run has read and written nothing.
use Rattle.std.proofs.Common.{◌≡◌, ℕ, List, [], Option, Err, Ok, Result, IsErrAnd, inl, refl, subst, sym}
use Rattle.byte_unit_command.specs.Run.{IsRunOf}
use Rattle.byte_unit_command.specs.State.{start_of}
use Rattle.byte_unit_command.specs.declared.error.EndReason.{EndReason}
use Rattle.byte_unit_command.specs.declared.options.Options.{Options}
use Rattle.byte_unit_command.specs.declared.streams.Streams.{Streams}
use Rattle.byte_unit_command.specs.declared.tally.Tally.{Tally}
use Rattle.byte_unit_stream.specs.Records.{finished_records}
use Rattle.byte_unit_stream.specs.RecordSteps.{start_at}
use Rattle.byte_unit_stream.specs.declared.run.RunError.{RunError}
use Rattle.byte_unit_stream.specs.declared.run.RunError.TheVariants.{Memory}
use Rattle.byte_unit_stream.proofs.Courses.{Course-start}
use Rattle.byte_unit_command.proofs.run.run.Goals as goal

-- a run that is out of memory may have done nothing
not_begun : {R W E : Type 0} (remaining : R → Option (List ℕ)) (contents : W → Option (List ℕ))
    (tells : E → Option (List ℕ)) (options : Options) (streams : Streams R W E)
    (result : Result Tally (RunError EndReason)) → IsErrAnd result (λ error. error ≡ Memory)
    → IsRunOf remaining contents tells options streams streams result
not_begun remaining contents tells options streams (Ok tally) passed = absurd passed
not_begun remaining contents tells options streams (Err error) passed =
    let start = start_of options streams.word.now in
    subst (λ error. IsRunOf remaining contents tells options streams streams (Err error)) (sym passed) (
      Course-start streams.reader streams.writer streams.errors,
      start,
      inl (record {
        first = [];
        is_beginning = (finished_records options.record_end [], refl);
        all = record { new = start_at start; steps = refl; out_is = refl; messages_are = refl };
      }),
      tt,
    )

-- no room for the bytes of a read
pub returns-in_err-resize-clause-run : goal.returns-in_err-resize-clause-run
returns-in_err-resize-clause-run g c =
    not_begun _ _ _ c.args.options.now c.args.streams.now c.from_residual.result c.from_residual.ensures.1
