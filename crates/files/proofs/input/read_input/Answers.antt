use Rattle.std.proofs.Common.{◌≡◌, ℕ, ◌+◌, ◌≤◌, List, ◌++◌, length, take, Some, None, Option, sym, refl, ap, ◌∙◌, append_assoc, arith, rules}
use Rattle.std.specs.Io.KnownBytes.{Consumes}
use Rattle.std.proofs.Math.Seq.{take-append-add}
use Rattle.std.proofs.lemmas.List.{take-take, length-take-le}
use Rattle.std.proofs.lemmas.Slice.{take-put_mid}
use Rattle.files.proofs.input.read_input.Goals as goal

-- bytes that were read behind others
consumes_more : (a b c : Option (List ℕ)) (xs ys zs : List ℕ) → Consumes a b xs → Consumes b c ys → zs ≡ xs ++ ys → Consumes a c zs
consumes_more None b c xs ys zs p q e = tt
consumes_more (Some us) None c xs ys zs p q e = absurd p
consumes_more (Some us) (Some vs) None xs ys zs p q e = absurd q
consumes_more (Some us) (Some vs) (Some ws) xs ys zs p q e = p ∙ ap (λ r. xs ++ r) q ∙ sym (append_assoc xs ys ws) ∙ ap (λ r. r ++ ws) (sym e)

-- the front of a buffer whose part from a place on is now ys
front : (a n : ℕ) (xs ys now : List ℕ) → a ≤ length xs → n ≤ length ys → take (a + length ys) now ≡ take a xs ++ ys → take (a + n) now ≡ take a xs ++ take n ys
front a n xs ys now h k e =
    let l = length-take-le a xs h in
    sym (take-take (a + n) (a + length ys) now (omega arith)) ∙ ap (take (a + n)) e ∙ ap (λ m. take (m + n) (take a xs ++ ys)) (sym l) ∙ take-append-add (take a xs) ys n

pub loop-used-preserved : goal.loop-used-preserved
loop-used-preserved g c =
    let n = c.in_ok-n.n in
    let u = c.loop-used.used in
    let old = c.loop-used.buffer in
    let part = c.read.new.buf in
    let h = c.loop-used.invariant.within in
    let b = c.in_ok-n.ensures.bound.0 in
    record {
      within = search rules;
      bytes = consumes_more _ _ _ (take u old) (take n part) _ c.loop-used.invariant.bytes c.in_ok-n.ensures.bytes.0 (front u n old part _ h b (take-put_mid u _ old part _ refl h));
    }
