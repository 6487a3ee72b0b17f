use Rattle.std.proofs.Common.{◌≡◌, ℕ, ◌<◌, ◌-◌, List, length, take, map, sym, ◌∙◌, ap, subst, arith}
use Rattle.std.specs.List.{All}
use Rattle.std.proofs.lemmas.List.{length-map}
use Rattle.h265_model.specs.NalUnits.{escape}
use Rattle.h265_model.specs.Stream.{but_last}
use Rattle.slice_assembly.proofs.EntryPoints.{offsets_are, offsets_some}
use Rattle.slice_assembly.proofs.Pieces.{piece_is}
use Rattle.slice_assembly.proofs.assembly.assemble.Goals as goal

pub write_head-requires-clause-some_bytes : goal.write_head-requires-clause-some_bytes
write_head-requires-clause-some_bytes c =
    let rows = c.args.rows.now in
    let n = c.in_ok-bytes.field-0.lengths.len in
    let front_is = c.from_vec-offsets.ensures ∙ c.pop.ensures.rest in
    subst (λ (l : List ℕ). All (λ o. 0 < o) l) (sym front_is)
    (subst (λ (l : List ℕ). All (λ o. 0 < o) (take (n - 1) l)) (sym c.in_ok-bytes.ensures.lengths)
    (offsets_some (λ row. row.items) rows (n - 1) c.requires.substreams))

pub returns : goal.returns
returns c =
    let rows = c.args.rows.now in
    let n = c.in_ok-bytes.field-0.lengths.len in
    let lengths = c.in_ok-bytes.field-0.lengths in
    let many : length lengths.items ≡ length rows = ap length c.in_ok-bytes.ensures.lengths ∙ length-map rows (λ row. length (escape row.items)) in
    let offsets_are : c.from_vec-offsets.result ≡ map length (but_last (map (λ row. escape row.items) rows)) =
    c.from_vec-offsets.ensures ∙ c.pop.ensures.rest
    ∙ ap (λ l. take (n - 1) l) c.in_ok-bytes.ensures.lengths
    ∙ offsets_are (λ row. escape row.items) rows n (omega (arith, many, lengths.ok)) in
    c.in_ok-extend_from_slice.ensures.items
    ∙ piece_is c.args.idr c.args.poc (map (λ row. escape row.items) rows) c.from_vec-offsets.result c.deref.result.now c.header.result c.new-piece.result.items c.append_unit.new.out.items c.deref-2.result.now
    (record {
      offsets_are = offsets_are;
      head_is = c.deref.ensures.value ∙ c.in_ok-head.ensures;
      header_is = c.header.ensures;
      nothing = c.new-piece.ensures.items;
      unit_is = c.in_ok-append_unit.ensures.ok;
      body_is = c.deref-2.ensures.value ∙ c.in_ok-bytes.ensures.bytes;
    })
