use Rattle.std.proofs.Common.{◌≡◌, true, false, sym, ap, ◌∙◌, rules}
use Rattle.files.specs.Fields.{is_end}
use Rattle.files.specs.Lines.{left}
use Rattle.files.proofs.Entries.{body_begins, body_ends, field_refused, stopped, passed}
use Rattle.files.proofs.reading.check_bodies.Goals as goal
use Rattle.files.proofs.reading.check_bodies.Goals.{in-Some+in-Err, in-None+then-ne}

pub loop-at-init : goal.loop-at-init
loop-at-init c =
    let b = body_begins c.body-body.result.now in
    search rules

pub loop-index-preserved : goal.loop-index-preserved
loop-index-preserved c =
    let xs = c.body-body.result.now in
    let it = c.loop-at.at-iterator in
    let s = c.in-None.ensures.steps in
    let e = body_ends xs it.at c.loop-at.wanted (ap (left it.at) (sym c.loop-at.invariant.body) ∙ s.1.0) c.loop-at.invariant.within in
    let z : is_end c.loop-at.wanted ≡ true = search rules in
    passed c.args.file.now c.args.count c.loop-index.index xs c.loop-index-test.true c.loop-index.invariant c.body-body.ensures.value (sym c.loop-at.invariant.decides ∙ rw z at e)

pub returns-2 : goal.returns-2
returns-2 c =
    let file = c.args.file.now in
    let i = c.loop-index.index in
    let xs = c.body-body.result.now in
    let it = c.loop-at.at-iterator in
    let body = c.loop-at.invariant.body in
    let halt = stopped file c.args.count i xs c.loop-index-test.true c.loop-index.invariant c.body-body.ensures.value _ _ c.match-next.index.0 c.match-next.index.1 c.from-2.ensures (c.from-3.ensures ∙ c.offset.ensures) in
    elim c.match-next.branch [
      | in-Some+in-Err w ↦
          let s = rw body at w.in-Some.ensures.steps.1 in
          let f = field_refused xs w.in-Some.field.now it.at c.next.new.self.at c.loop-at.wanted s.1 s.2 s.3 _ (rw s.0 at (sym w.in-Err.ensures)) in
          halt _ (sym c.loop-at.invariant.decides ∙ f) (ap (λ x. x.0) w.index-is) (ap (λ x. x.1) w.index-is ∙ s.0)
      | in-None+then-ne w ↦
          let e = body_ends xs it.at c.loop-at.wanted (ap (left it.at) (sym body) ∙ w.in-None.ensures.steps.1.0) c.loop-at.invariant.within in
          let z : is_end c.loop-at.wanted ≡ false = search rules in
          halt _ (sym c.loop-at.invariant.decides ∙ rw z at e) (ap (λ x. x.0) w.index-is) (ap (λ x. x.1) w.index-is)
    ]
