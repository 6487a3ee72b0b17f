-- The counts of a call, and when a fault may be answered.
use Rattle.std.specs.Prelude.{◌≡◌, ℕ, ◌≤◌, List}
use Rattle.recorder_model.specs.Files.{Rose}
use Rattle.screenrec.specs.declared.outcome.Status.{Status}
use Rattle.screenrec.specs.declared.outcome.Status.TheVariants as status

-- the counts of faults of a shelf and of a report, before a call and after it
pub record Counts : Type 0 where
  pub reads : ℕ
  pub writes : ℕ
  pub reports : ℕ

abbrev pub counts : ℕ → ℕ → ℕ → Counts
counts reads writes reports = record { reads = reads; writes = writes; reports = reports }

-- A fault is answered only where its count rose in the call. The counts never fall, and with Ok none rose.
pub record HasCauses (before now : Counts) (answer : Status) : Type 0 where
  pub reads_later : before.reads ≤ now.reads
  pub writes_later : before.writes ≤ now.writes
  pub reports_later : before.reports ≤ now.reports
  pub input : (file : ℕ) → answer ≡ status.InputFault file → Rose before.reads now.reads
  pub sink : answer ≡ status.SinkFault → Rose before.writes now.writes
  pub report : answer ≡ status.ReportFault → Rose before.reports now.reports
  pub quiet : answer ≡ status.Ok → (now.reads ≡ before.reads) × (now.writes ≡ before.writes) × (now.reports ≡ before.reports)

-- No count rose.
pub record NoneRose (before now : Counts) : Type 0 where
  pub reads : ¬ Rose before.reads now.reads
  pub writes : ¬ Rose before.writes now.writes
  pub reports : ¬ Rose before.reports now.reports

-- In every status but Ok and ReportFault nothing is written to the report.
abbrev pub IsSilent : Status → List ℕ → List ℕ → Type 0
IsSilent status.Ok was now = Unit {0}
IsSilent status.ReportFault was now = Unit {0}
IsSilent _ was now = now ≡ was
