-- What is proved of the live report.
use Rattle.std.specs.Prelude.{◌≡◌, ℕ, ◌<◌, ◌^◌, List, ◌++◌, length}
use Rattle.std.specs.Str.{IsUtf8}
use Rattle.arb_share.specs.Text.{lines_of}
use Rattle.arb_config.specs.Machine.{Machine}
use Rattle.arb_model.specs.Renewal.{endless}
use Rattle.arb_model.specs.Step.{step_of}
use Rattle.arb_script.specs.declared.given.ClientOrder.{ClientOrder}
use Rattle.arb_script.specs.Printed.{entry_text}
use Rattle.arb_script.specs.Script.{IsScript, said_in}
use Rattle.arb_script.specs.Table.{table_text}
use Rattle.arb_script.specs.Report.{report, standing_after}
use Rattle.arb_live.specs.declared.heard.Heard.TheVariants.{Order}
use Rattle.arb_live.specs.Heard.{heard}
use Rattle.arb_live.specs.Live.{Talk, answer_to, live_report, opening_talk, talk_after}

-- of a text whose lines are a script, the live report is the report of the script up to the owner table
abbrev pub ReportsAsRun : Type 0
ReportsAsRun = (m : Machine) (text : List ℕ) (script : List ClientOrder) → IsUtf8 text → IsScript (said_in text) script
    → report m script ≡ live_report m (lines_of text) ++ table_text m (standing_after m script).seats

-- an order is answered by its reply in a talk
abbrev pub IsReplied : Machine → Talk → (line : List ℕ) → Type 0
IsReplied m talk line =
    (given : ClientOrder) → heard line ≡ Order given → answer_to m talk line ≡ entry_text given.client given.order (step_of m talk.standing given.client given.order).reply

-- without a limit, after fewer than 2^64 lines an order is never answered as full
abbrev pub EndlessIsNeverFull : Type 0
EndlessIsNeverFull = (m : Machine) (lines : List (List ℕ)) (line : List ℕ) → length lines < 2 ^ 64 → IsReplied (endless m) (talk_after (endless m) (opening_talk (endless m)) lines) line
