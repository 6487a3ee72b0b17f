use Rattle.std.proofs.Common.{◌≡◌, sym, ◌∙◌, ap, subst}
use Rattle.std.specs.Prelude.{Some, None, Option, Result, Ok}
use Rattle.h265_model.specs.Plain.{Size}
use Rattle.h265_model.specs.Decode.{Decoded}
use Rattle.px_plane.specs.Planes.{Planes, planes_of}
use Rattle.annexb.specs.Walks.{first_header}
use Rattle.stream_decode.specs.declared.error.DecodeError.{DecodeError}
use Rattle.stream_decode.specs.Steps.{Units, ReadsPicture, PassesHash, rest, between, last_of, after_picture, picture_first}
use Rattle.stream_decode.proofs.Wholes.{nothing_left, fails_there, read_on}
use Rattle.stream_decode.proofs.reader.Reader.next.Goals as goal

pub returns-in_default : goal.returns-in_default
returns-in_default c =
    let i = c.self.inside in
    let none : first_header i.cursor.list ≡ None = ap (λ (u : Units). first_header u.list) (sym c.twin-cursor.ensures) ∙ (sym c.header.ensures ∙ c.in_default.is) in
    nothing_left c.args.self.now i.size i.segments (last_of i.order i.canvas.last) i.cursor i.canvas.last (sym c.self.view_is) none

pub returns-in_default-idr_of : goal.returns-in_default-idr_of
returns-in_default-idr_of c =
    let i = c.self.inside in
    let first : first_header i.cursor.list ≡ Some c.in-Some.header = ap (λ (u : Units). first_header u.list) (sym c.twin-cursor.ensures) ∙ (sym c.header.ensures ∙ c.in-Some.is) in
    let others = c.in_default-idr_of.ensures in
    fails_there c.args.self.now i.size i.segments (last_of i.order i.canvas.last) i.cursor i.canvas.last c.in-Some.header c.number.result (sym c.self.view_is) first others.0 others.1 (c.number.ensures ∙ ap (λ (u : Units). u.number) c.twin-cursor.ensures)

pub returns : goal.returns
returns c =
    let i = c.self.inside in
    let after = c.read_picture.new.cursor in
    let now = c.read_picture.new.canvas.last in
    let d : Decoded = record { poc = c.in_ok-poc.poc; planes = planes_of now } in
    let last : Option Decoded = last_of i.order i.canvas.last in
    let read : ReadsPicture (Ok c.in_ok-poc.poc) i.canvas.last.size i.segments last c.twin-cursor.result after i.canvas c.read_picture.new.canvas = c.in_ok-poc.ensures.read in
    let sized : rest i.size i.segments (between last) c.twin-cursor.result ≡ after_picture i.size i.segments d after =
    subst (λ (size : Size). rest size i.segments (between last) c.twin-cursor.result ≡ after_picture size i.segments d after) c.self.invariant.0 read.0 in
    let passed : PassesHash (Ok c.in_default-pass_hash.field-0) c.last.result.now after c.pass_hash.new.cursor =
    subst (λ (r : Result (Unit {0}) DecodeError). PassesHash r c.last.result.now after c.pass_hash.new.cursor) c.in_default-pass_hash.is c.pass_hash.ensures in
    read_on c.args.self.now i.size i.segments last i.cursor after c.pass_hash.new.cursor i.canvas.last now c.in_ok-poc.poc (sym c.self.view_is) (c.in_ok-poc.ensures.size ∙ c.self.invariant.0)
    (subst (λ (u : Units). rest i.size i.segments (between last) u ≡ after_picture i.size i.segments d after) c.twin-cursor.ensures sized)
    (subst (λ (p : Planes). let d : Decoded = record { poc = c.in_ok-poc.poc; planes = planes_of p } in after_picture i.size i.segments d after ≡ picture_first i.size i.segments d c.pass_hash.new.cursor) c.last.ensures
    (passed i.size i.segments c.in_ok-poc.poc))
