-- The market that a session has come to, and what the rules make of its next line. Rests on what a
-- book and its cells hold.
use Rattle.std.specs.Prelude.{ℕ, List}
use Rattle.board.specs.Quotes.{Quotes}
use Rattle.rules.specs.Rankings.{Ranking}
use Rattle.rules.specs.Calls.{Market, Outcome, terms, apply}
use Rattle.law.specs.Law.{entry, tape}
use Rattle.book.specs.Held.{held}
use Rattle.files.specs.Lines.{Line}
use Rattle.files.specs.Calls.{call_of}
use Rattle.session.specs.Listing.{entry_text, entries_text}
use Rattle.session.specs.Sessions.{calls}
use Rattle.session.specs.declared.running.Session.{Session}

-- the market of a session, over what the board means
abbrev pub market_of : {R : Type 0} → Session R → Quotes → Market
market_of s b = held s.book s.bids s.offers b

-- what becomes of the call of a line
abbrev pub outcome_of : Ranking → Market → Line → Outcome
outcome_of ranking m line = apply (terms ranking) m (call_of line) 144

-- the text of a line that is played
abbrev pub played_text : Ranking → Market → Line → List ℕ
played_text ranking m line = entry_text line (entry (call_of line) 144 (outcome_of ranking m line))

-- the text of the lines that are played from a market on
abbrev pub text_from : Ranking → Market → List Line → List ℕ
text_from ranking m lines = entries_text lines (tape (terms ranking) m (calls lines))
