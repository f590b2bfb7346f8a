-- What the run of `byte_unit_stream` leaves is the report.
use Rattle.byte_unit_stream.specs.Streams.{HasReadAll}
use Rattle.byte_unit_lines.proofs.Runs.{IsWritten-left, complete-left}
use Rattle.byte_unit_lines.proofs.report.run_with_buffers.Goals as goal

-- what was read and written, and that it is right for the result
pub returns-clause-run : goal.returns-clause-run
returns-clause-run g c =
    let run = c.run_steps.ensures.run in
    let course = run.0 in (
      course.read,
      course.written,
      course.has_read,
      course.has_written,
      IsWritten-left c.args.kind c.each_line_has_an_answer.ensures course.read
          (HasReadAll g.R.Read.remaining c.run_steps.new.reader) c.run_steps.result _ course.written course.messages run.1,
    )

-- on `Ok` the whole input was read
pub returns-clause-end : goal.returns-clause-end
returns-clause-end g c =
    let run = c.run_steps.ensures.run in
    complete-left c.args.kind run.0.read (HasReadAll g.R.Read.remaining c.run_steps.new.reader) c.run_steps.result _ run.0.written
    run.0.messages run.1
