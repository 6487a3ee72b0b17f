-- A recorder beside its clients.
use Rattle.std.specs.Prelude.{◌≡◌, ℕ, ◌<◌, ◌≤◌, ◌-◌, ◌^◌, []}
use Rattle.atomic_table.specs.Seated.{TableId}
use Rattle.turn_lock.specs.Standing.{Standing}
use Rattle.live_desk.specs.Passes.{fresh_recorder}
use Rattle.picture_encoder.specs.Coded.{Coded, StandsFor}

-- a pass that has taken no job of this desk, and an encoder of its size that has coded no picture
pub record IsRecordable (desk : TableId) (pass : Standing) (encoder : Coded) (cuts workers : ℕ) : Type 0 where
  pub fresh : pass ≡ fresh_recorder desk pass.knows.setting
  pub size : encoder.settings.size ≡ pass.knows.setting.size
  pub sized : encoder.last.size ≡ encoder.settings.size
  pub none : StandsFor encoder []
  pub few : cuts < 2 ^ 32 - 1
  pub one : 1 ≤ workers
  pub most : workers ≤ 64
