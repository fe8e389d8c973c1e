-- Texts written one behind another on a page. Assumes nothing.
use Rattle.std.proofs.Common.{◌≡◌, ℕ, ◌+◌, ◌<◌, List, [], ◌∷◌, ◌++◌, length, get_or, take, drop, sym, ap, ◌∙◌, subst, append_assoc, arith, length-append, length-drop}
use Rattle.std.proofs.Math.Seq.{take-append_seam, drop-append_seam}
use Rattle.std.proofs.lemmas.List.{length-take-le, take_more, flat_map_more}
use Rattle.std.proofs.lemmas.List.Folds.{length-flat_map-take}
use Rattle.shelf.proofs.Cells.{drop_later}
use Rattle.rules.specs.declared.types.Row.{Row}
use Rattle.session.specs.declared.listing.Page.{Page}
use Rattle.session.specs.Listing.{row_text, rows_text}
use Rattle.session.specs.Pages.{HasRoom, Wrote}

pub wrote_then : {p q r : Page} {t u : List ℕ} → Wrote p q t → Wrote q r u → Wrote p r (t ++ u)
wrote_then {p} {q} {r} {t} {u} w v =
    let n = length-append t u in
    record {
      same_bytes = v.same_bytes ∙ w.same_bytes;
      same_length = v.same_length ∙ w.same_length;
      end = omega arith;
      front = v.front ∙ ap (λ x. x ++ u) w.front ∙ append_assoc (take p.written p.bytes.now) t u;
      behind = v.behind ∙ drop_later q.bytes.now p.bytes.now q.written r.written (omega arith) w.behind;
    }

-- text that stands behind what was written so far, and before what stood behind it
pub wrote_so : {p q : Page} {text : List ℕ} → q.bytes.ghost_name ≡ p.bytes.ghost_name → HasRoom p text → q.written ≡ p.written + length text → q.bytes.now ≡ take p.written p.bytes.now ++ (text ++ drop q.written p.bytes.now) → Wrote p q text
wrote_so {p} {q} {text} same room end is =
    let old = take p.written p.bytes.now in
    let rest = drop q.written p.bytes.now in
    let whole : q.bytes.now ≡ (old ++ text) ++ rest = is ∙ sym (append_assoc old text rest) in
    let long : q.written ≡ length (old ++ text) = omega (arith, length-append old text, length-take-le p.written p.bytes.now (omega arith)) in
    record {
      same_bytes = same;
      same_length = omega (arith, ap length whole, length-append (old ++ text) rest, length-drop q.written p.bytes.now, long);
      end = end;
      front = ap (λ n. take n q.bytes.now) long ∙ ap (take (length (old ++ text))) whole ∙ take-append_seam (old ++ text) rest;
      behind = ap (λ n. drop n q.bytes.now) long ∙ ap (drop (length (old ++ text))) whole ∙ drop-append_seam (old ++ text) rest;
    }

-- the byte that is written next has room
pub bytes_room : {p q : Page} (text : List ℕ) (i d : ℕ) → i < length text → HasRoom p text → Wrote p q (take i text) → HasRoom q (get_or text i d ∷ [])
bytes_room text i d h room w = omega (arith, length-take-le i text (omega arith), w.end, w.same_length)

-- one byte more
pub bytes_wrote : {p q r : Page} (text : List ℕ) (i d : ℕ) → i < length text → Wrote p q (take i text) → Wrote q r (get_or text i d ∷ []) → Wrote p r (take (i + 1) text)
bytes_wrote {p} {q} {r} text i d h w v = subst (Wrote p r) (sym (take_more text i d h)) (wrote_then w v)

-- the row that is written next has room
pub rows_room : {p q : Page} (rows : List Row) (i : ℕ) (d : Row) → i < length rows → HasRoom p (rows_text rows) → Wrote p q (rows_text (take i rows)) → HasRoom q (row_text (get_or rows i d))
rows_room rows i d h room w = omega (arith, length-flat_map-take row_text rows i d h, w.end, w.same_length)

-- one row more
pub rows_wrote : {p q r : Page} (rows : List Row) (i : ℕ) (d : Row) → i < length rows → Wrote p q (rows_text (take i rows)) → Wrote q r (row_text (get_or rows i d)) → Wrote p r (rows_text (take (i + 1) rows))
rows_wrote {p} {q} {r} rows i d h w v =
    let e : rows_text (take (i + 1) rows) ≡ rows_text (take i rows) ++ row_text (get_or rows i d) = ap rows_text (take_more rows i d h) ∙ sym (flat_map_more row_text [] (take i rows) (get_or rows i d)) in
    subst (λ text. Wrote p r text) (sym e) (wrote_then w v)
