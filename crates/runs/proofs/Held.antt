-- The promises, of a run from a fresh converter.
use Rattle.std.proofs.Common.{List, sym, ◌∙◌}
use Rattle.device.specs.Life.{Life}
use Rattle.runs.proofs.Alike.{logs, records}
use Rattle.runs.proofs.Given.{cells_are}
use Rattle.runs.proofs.Guessed.{passwords}
use Rattle.runs.proofs.Noted.{heard_so}
use Rattle.runs.specs.History.{Turn}
use Rattle.runs.specs.Promises.{Lives, PasswordsOf, RecordsOf, SettingsOf, Start, fresh_of}

module _ (s : Start) (history : List Turn) (l : Life) (lives : Lives s history l) where
  pub settings_of : SettingsOf s history l
  settings_of = record {
    each = cells_are (fresh_of s) l history lives;
    since = λ m n between run. cells_are m n between run;
    equal = λ r other m run.
        let mine = cells_are (fresh_of s) l history lives in
        let theirs = cells_are (fresh_of r) m other run in
        ((λ e k h. sym (mine k) ∙ e k h ∙ theirs k), (λ e k h. mine k ∙ e k h ∙ sym (theirs k)));
  }

  pub passwords_of : PasswordsOf s history l
  passwords_of earlier later m is from on r before other n o run rest like same = passwords m n l o later other on rest like same

  pub records_of : RecordsOf s history l
  records_of = record {
    logs = logs s.cells s.volume s.volume_of_gaps s.events s.gaps history l lives;
    beside = λ r other m run. logs r.cells r.volume r.volume_of_gaps r.events r.gaps other m run;
    heard = heard_so;
    equal = λ r other m run a b.
        records s.cells r.cells s.volume s.volume_of_gaps r.volume r.volume_of_gaps s.events r.events s.gaps r.gaps history other l m lives run a b;
  }
