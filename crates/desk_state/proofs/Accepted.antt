-- What a call makes of a desk's fields.
use Rattle.std.proofs.Common.{◌≡◌, ℕ, ◌-◌, ◌^◌, ◌<◌, ◌≤◌, List, [], ◌∷◌, ◌++◌, length, sym, ap, subst, ◌∙◌, arith, vec_len, vec_capacity, length-append}
use Rattle.recorder_model.specs.declared.entry.Entry.{Entry}
use Rattle.recorder_model.specs.declared.entry.Entry.TheVariants as entry
use Rattle.h265_model.specs.declared.job.Job.{Job}
use Rattle.recorder_model.specs.declared.line.Line.{Line}
use Rattle.recorder_model.specs.Painting.{accepted_line}
use Rattle.recorder_model.specs.Histories.{cuts, takes}
use Rattle.desk_surface.specs.Damage.{Painted}
use Rattle.desk_state.specs.declared.replay.Replay.{Replay}
use Rattle.desk_state.specs.declared.state.DeskState.TheInside.{Inside}
use Rattle.desk_state.specs.Standing.{StandsFor, most_entries, IsNext}
use Rattle.desk_state.specs.Replays.{IsAfter, IsOneMore}
use Rattle.desk_state.specs.Accepting.{HasAccepted}
use Rattle.desk_state.specs.Inside.{state_of, IsDesk}
use Rattle.desk_state.proofs.Totals.{few_entries, few_cuts}
use Rattle.desk_state.proofs.Desks.{HasPlayed, IsTaken, played, taken_first, setting_at, stands_at_first, none_taken, none_cut}

-- a history is short
pub few_now : (a : Inside) → IsDesk a → length a.history.items < 2 ^ 32 - 1
few_now a is = omega (arith, is.few, few_entries a.scripts a.history.items is.stands.replay.lawful is.taken)

pub few_cuts_now : (a : Inside) → IsDesk a → a.replay.cuts < 2 ^ 32 - 1
few_cuts_now a is = omega (arith, few_now a is, few_cuts a.scripts a.history.items, is.counted)

-- there is room for an entry that may come
pub room_now : (a : Inside) (e : Entry) (surface : Painted) (jobs : List Job) (n : ℕ) → IsDesk a → HasPlayed a.scripts (a.history.items ++ e ∷ []) surface jobs n → vec_len a.history < vec_capacity a.history
room_now a e surface jobs n is after =
    omega (arith, is.room, few_entries a.scripts (a.history.items ++ e ∷ []) after.lawful after.taken, length-append a.history.items (e ∷ []), a.history.ok)

-- the fields after an entry
pub desk_from : (a b : Inside) (e : Entry) → IsDesk a → b.scripts ≡ a.scripts → b.history.items ≡ a.history.items ++ e ∷ [] → vec_capacity b.history ≡ vec_capacity a.history
    → HasPlayed a.scripts (a.history.items ++ e ∷ []) b.replay.surface b.replay.jobs.items b.replay.cuts → IsDesk b
desk_from a b e is scripts items capacity after =
    let p : HasPlayed b.scripts b.history.items b.replay.surface b.replay.jobs.items b.replay.cuts =
    subst (λ s. HasPlayed s b.history.items b.replay.surface b.replay.jobs.items b.replay.cuts) (sym scripts) (subst (λ h. HasPlayed a.scripts h b.replay.surface b.replay.jobs.items b.replay.cuts) (sym items) after) in
    let same : most_entries b.scripts ≡ most_entries a.scripts = ap most_entries scripts in
    record {
      stands = p.stands;
      taken = p.taken;
      counted = p.counted;
      few = omega (arith, same, is.few);
      room = omega (arith, same, capacity, is.room);
    }

pub desk_played : (a : Inside) (client index : ℕ) (line : Line) (new : Replay) → IsDesk a → IsNext (state_of a) client index → accepted_line a.scripts client index ≡ line → HasAccepted line a.replay new
    → HasPlayed a.scripts (a.history.items ++ entry.Line client index ∷ []) new.surface new.jobs.items new.cuts
desk_played a client index line new is next same accepts =
    played a.scripts a.history.items client index a.replay.surface new.surface a.replay.jobs.items new.jobs.items a.replay.cuts new.cuts is.stands is.counted is.taken next.there next.accepted
    (subst (λ l. IsOneMore l (λ lines taken. IsAfter lines taken a.replay.surface a.replay.jobs.items a.replay.cuts) (λ lines taken. IsAfter lines taken new.surface new.jobs.items new.cuts)) (sym same) accepts)

pub desk_taken : (a : Inside) (job : Job) (more : List Job) → IsDesk a → a.replay.jobs.items ≡ job ∷ more → IsTaken a.scripts a.history.items a.replay.surface job more a.replay.cuts
desk_taken a job more is first = taken_first a.scripts a.history.items a.replay.surface job a.replay.jobs.items more a.replay.cuts is.stands is.counted first

-- the fields of a desk that accepted nothing
pub desk_at_first : (a : Inside) → a.history.items ≡ [] → most_entries a.scripts < 2 ^ 32 - 1 → most_entries a.scripts ≤ vec_capacity a.history → IsAfter [] 0 a.replay.surface a.replay.jobs.items a.replay.cuts → IsDesk a
desk_at_first a none few room is =
    let stands = stands_at_first a.scripts a.replay.surface a.replay.jobs.items a.replay.cuts is in
    record {
      stands = subst (λ h. StandsFor (setting_at a.replay.surface a.scripts) h a.replay.surface a.replay.jobs.items) (sym none) stands;
      taken = subst (λ h. takes h ≤ cuts a.scripts h) (sym none) (none_taken a.scripts);
      counted = subst (λ h. a.replay.cuts ≡ cuts a.scripts h) (sym none) (is.counted ∙ sym (none_cut a.scripts));
      few = few;
      room = room;
    }
