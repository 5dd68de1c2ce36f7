-- The job of an act is the only order that it makes.
use Rattle.std.proofs.Common.{List, ◌++◌, ap, ◌∙◌}
use Rattle.psd_base.specs.declared.console.Order.{Order}
use Rattle.firmware_loop.specs.declared.timed_job.TimedJob.{TimedJob}
use Rattle.firmware_loop.specs.Batches.{first_job}
use Rattle.firmware_loop.proofs.Reordering.{first_job-act}
use Rattle.firmware_loop.proofs.lane.serve_line.Goals as goal

pub returns-clause-jobs : goal.returns-clause-jobs
returns-clause-jobs c = λ rules past stands.
    let line = c.args.line.now in
    c.keep_job.ensures.jobs
    ∙ ap (λ (orders : List Order). c.args.jobs.now ++ first_job line.tick orders)
    (c.as_slice.ensures ∙ c.act.ensures.orders rules past stands)
    ∙ ap (λ (jobs : List TimedJob). c.args.jobs.now ++ jobs) (first_job-act rules line.tick c.args.port line.side line.act past)
