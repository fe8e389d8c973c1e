use Rattle.std.proofs.Common.{◌≡◌, length, decimal, sym, refl, ap, arith}
use Rattle.std.proofs.lemmas.List.{take-append-drop}
use Rattle.session.proofs.Lengths.{decimal_length}
use Rattle.session.proofs.Writing.{wrote_so}
use Rattle.session.proofs.listing.Page.number.Goals as goal

pub write_digits-requires : goal.write_digits-requires
write_digits-requires c =
    let long = decimal_length c.ilog10.result c.args.n (omega arith) (omega arith) (omega arith) in
    let same = ap (λ n. length (decimal n)) c.from.ensures in
    (omega arith, omega arith)

pub returns : goal.returns
returns c =
    let page = c.args.self.now in
    let d = c.write_digits in
    let long = decimal_length c.ilog10.result c.args.n (omega arith) (omega arith) (omega arith) in
    let same = ap (λ n. length (decimal n)) c.from.ensures in
    let start : d.result ≡ page.written = omega (arith, d.ensures.start) in
    wrote_so refl c.requires (omega arith) (sym (rw (d.ensures.before, d.ensures.written, c.from.ensures, start) at (take-append-drop d.result d.new.buf)))
