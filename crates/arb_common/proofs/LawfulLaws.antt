-- Each point of a legal history is lawful.
use Rattle.std.proofs.Common.{◌≡◌, ◌++◌, ◌∷◌, List, ℕ, arith, subst, sym, ap, ◌∙◌}
use Rattle.arb_config.specs.Machine.{Machine}
use Rattle.arb_model.specs.declared.orders.Entry.{Entry}
use Rattle.arb_model.specs.declared.orders.Event.TheVariants.{Entered}
use Rattle.arb_model.specs.History.{History, IsLegal, MayEnter, count_of, place_posted, state_after}
use Rattle.arb_model.specs.Layout.{place_index, position_named}
use Rattle.arb_model.specs.Reading.{ReadsNoCoreTwice, reading}
use Rattle.arb_model.proofs.LegalLaws.{legal_allowed, legal_prefix}
use Rattle.arb_model.proofs.SettlingLaws.{follows_by_state}
use Rattle.arb_common.specs.Lawful.{IsLawful, IsLawfulThroughout}
use Rattle.arb_common.specs.Limits.{IsMachineOfAnyLimit}
use Rattle.arb_common.proofs.LimitLaws.{Leads, leads}

reads_no_core_twice : (m : Machine) (h : History) → Leads m h (state_after m h) → ReadsNoCoreTwice h
reads_no_core_twice m h l t u ht hu a b e =
    let posted : List ℕ = (state_after m h).posted in
    let x : reading h (place_index t) ≡ place_posted posted t = l.words (place_index t) (omega (arith, ht)) in
    let y : reading h (place_index u) ≡ place_posted posted u = l.words (place_index u) (omega (arith, hu)) in
    l.consistent.apart t u ht hu (omega (arith, x, a)) (omega (arith, y, b)) (sym (ap position_named x) ∙ e ∙ ap position_named y)

-- an entry was entered in the state before it
was_entered : (m : Machine) (h before rest : History) (e : Entry) → IsLegal m h → before ++ Entered e ∷ rest ≡ h → MayEnter m (state_after m before) e
was_entered m h before rest e legal is = (follows_by_state m before (Entered e)).0 (legal_allowed m before rest (Entered e) (subst (IsLegal m) (sym is) legal))

numbers_entry : (m : Machine) (h before rest : History) (e : Entry) → IsMachineOfAnyLimit m → IsLegal m h → before ++ Entered e ∷ rest ≡ h → e.number ≡ count_of before e.client
numbers_entry m h before rest e machine legal is =
    let may = was_entered m h before rest e legal is in
    may.number ∙ (leads m before machine (legal_prefix m before h (Entered e ∷ rest, is) legal)).counts e.client may.client

is_lawful : (m : Machine) (h : History) → IsMachineOfAnyLimit m → IsLegal m h → IsLawful m h
is_lawful m h machine legal =
    let l = leads m h machine legal in
    record {
      standing = l.consistent.standing;
      posted = l.consistent.apart;
      read = reads_no_core_twice m h l;
      words = l.words;
      replies = λ before rest e is. (was_entered m h before rest e legal is).reply;
      numbers = λ before rest e is. numbers_entry m h before rest e machine legal is;
      counts = l.counts;
      within = l.within;
    }

pub lawful_throughout : (m : Machine) (h : History) → IsMachineOfAnyLimit m → IsLegal m h → IsLawfulThroughout m h
lawful_throughout m h machine legal point begins = is_lawful m point machine (legal_prefix m point h begins legal)
