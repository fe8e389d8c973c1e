use Rattle.std.proofs.Common.{◌≡◌, ℕ, ◌+◌, ◌*◌, Err, Result, rules}
use Rattle.market.specs.declared.types.Refusal.{Refusal}
use Rattle.market.specs.declared.types.Refusal.TheVariants.{FileSize, Contents}
use Rattle.files.specs.Files.{refusal_of, checked}
use Rattle.files.proofs.Laws.{answered, checked_counted, bytes_of}
use Rattle.files.proofs.reading.check_file.Goals as goal

pub returns-then-is_wrong_size : goal.returns-then-is_wrong_size
unfolding refusal_of
returns-then-is_wrong_size c =
    let f = c.args.file.now in
    let v : ◌≡◌ {A = Result ℕ Refusal} (Err FileSize) (checked f) = search rules in
    let b = bytes_of f c.type_inv.file in
    record { value = v; written = answered f (Err FileSize) b v; read = checked_counted f (Err FileSize) b v }

pub returns-in-Some : goal.returns-in-Some
unfolding refusal_of
returns-in-Some c =
    let f = c.args.file.now in
    let r : Refusal = Contents c.from-index.result (2 + 4 * c.from-index.result) in
    let v : ◌≡◌ {A = Result ℕ Refusal} (Err r) (checked f) = search rules in
    let b = bytes_of f c.type_inv.file in
    record { value = v; written = answered f (Err r) b v; read = checked_counted f (Err r) b v }

pub returns : goal.returns
unfolding refusal_of
returns c =
    let f = c.args.file.now in
    let v : c.check_bodies.result ≡ checked f = search rules in
    let b = bytes_of f c.type_inv.file in
    record { value = v; written = answered f c.check_bodies.result b v; read = checked_counted f c.check_bodies.result b v }
