use Rattle.std.proofs.Common.{◌≡◌, true, false, sym, ◌∙◌, rules}
use Rattle.calendar.specs.Dates.{is_lawful}
use Rattle.calendar.proofs.Inverse.{every_date}
use Rattle.calendar.proofs.Clock.set.Goals as goal
use Rattle.std.proofs.lemmas.Bool.{cond-false, cond-true}

pub returns-then-not-is_lawful : goal.returns-then-not-is_lawful
returns-then-not-is_lawful c =
    let no-date : is_lawful c.args.date ≡ false = sym c.is_lawful.ensures ∙ c.if-not-is_lawful.true in
    record { told = sym (cond-false _ _ _ no-date); shows = sym (cond-false _ _ _ no-date); every_date = every_date }

pub invariant_of-self : goal.invariant_of-self
invariant_of-self c =
    let a-date : is_lawful c.args.date ≡ true = sym c.is_lawful.ensures ∙ c.if-not-is_lawful.false in
    let most = (every_date c.args.date a-date).0 in
    let moment = c.moment-self.ensures in
    search rules

pub returns : goal.returns
returns c =
    let a-date : is_lawful c.args.date ≡ true = sym c.is_lawful.ensures ∙ c.if-not-is_lawful.false in
    let seconds = c.moment-self.ensures in
    let season = c.from-self.ensures in
    record { told = sym (cond-true _ _ _ a-date); shows = (cc) ∙ sym (cond-true _ _ _ a-date); every_date = every_date }
