-- The parts of the walk through the declarations, one after the other.
use Rattle.std.proofs.Common.{◌≡◌, ℕ, ◌+◌, ◌≤◌, ◌<◌, List, [], ◌∷◌, ◌++◌, refl, sym, ap, ◌∙◌, append_assoc, arith}
use Rattle.std.specs.Prelude.{nat_lt, Ok, Err}
use Rattle.std.proofs.lemmas.Bool.{lt-ltb, le-ltb}
use Rattle.vera_ast.specs.declared.refusal.Refusal.{Refusal}
use Rattle.vera_names.proofs.Answering.{ok_then, err_then, refused_by, passed_by}
use Rattle.typing_rules.specs.Checked.{Checked}
use Rattle.typing_rules.specs.Declarations.{Part, walk_parts, rules, declares}
use Rattle.vera_decls.specs.Walks.{Leads, IsRefused}

-- ---- one part

part_passes : (n : ℕ) (p : Part) (parts : List Part) (u : Unit {0}) → p.check ≡ Ok u → n + p.names ≤ 65535 → walk_parts n (p ∷ parts) ≡ walk_parts (n + p.names) parts
unfolding walk_parts
part_passes n p parts u e within = ok_then p.check u _ e ∙ passed_by p.line 39 (nat_lt 65535 (n + p.names)) _ (le-ltb 65535 (n + p.names) within)

part_refused : (n : ℕ) (p : Part) (parts : List Part) (r : Refusal) → p.check ≡ Err r → walk_parts n (p ∷ parts) ≡ Err r
unfolding walk_parts
part_refused n p parts r e = err_then p.check r _ e

part_past : (n : ℕ) (p : Part) (parts : List Part) (u : Unit {0}) → p.check ≡ Ok u → 65535 < n + p.names → walk_parts n (p ∷ parts) ≡ Err (record { code = 39; line = p.line })
unfolding walk_parts
part_past n p parts u e past = ok_then p.check u _ e ∙ refused_by p.line 39 (nat_lt 65535 (n + p.names)) _ (lt-ltb 65535 (n + p.names) past)

pub rules_pass : (n line : ℕ) (check : Checked (Unit {0})) (u : Unit {0}) → check ≡ Ok u → n ≤ 65535 → Leads n (rules line check ∷ []) n []
rules_pass n line check u e within = record {
  leads = λ rest. let same : n + 0 ≡ n = omega arith in part_passes n (rules line check) rest u e (omega arith) ∙ ap (λ (m : ℕ). walk_parts m rest) same;
}

pub rules_refused : (n line : ℕ) (check : Checked (Unit {0})) (r : Refusal) → check ≡ Err r → IsRefused n (rules line check ∷ []) r
rules_refused n line check r e = record { refused = λ rest. part_refused n (rules line check) rest r e }

pub name_passes : (n line : ℕ) (check : Checked (Unit {0})) (u : Unit {0}) → check ≡ Ok u → n < 65535 → Leads n (declares line check ∷ []) (n + 1) []
name_passes n line check u e within = record { leads = λ rest. part_passes n (declares line check) rest u e (omega arith) }

pub name_refused : (n line : ℕ) (check : Checked (Unit {0})) (r : Refusal) → check ≡ Err r → IsRefused n (declares line check ∷ []) r
name_refused n line check r e = record { refused = λ rest. part_refused n (declares line check) rest r e }

pub name_past : (n line : ℕ) (check : Checked (Unit {0})) (u : Unit {0}) → check ≡ Ok u → 65535 ≤ n → IsRefused n (declares line check ∷ []) (record { code = 39; line = line })
name_past n line check u e past = record { refused = λ rest. part_past n (declares line check) rest u e (omega arith) }

-- ---- parts one after the other

pub leads_itself : (n : ℕ) (parts : List Part) → Leads n parts n parts
leads_itself n parts = record { leads = λ rest. refl }

-- the next part of those that are left
pub leads_on : (n : ℕ) (parts : List Part) (m : ℕ) (part more : List Part) (k : ℕ) → Leads n parts m (part ++ more) → Leads m part k [] → Leads n parts k more
leads_on n parts m part more k a b = record {
  leads = λ rest. a.leads rest ∙ ap (walk_parts m) (append_assoc part more rest) ∙ b.leads (more ++ rest);
}

pub refused_on : (n : ℕ) (parts : List Part) (m : ℕ) (part more : List Part) (r : Refusal) → Leads n parts m (part ++ more) → IsRefused m part r → IsRefused n parts r
refused_on n parts m part more r a b = record {
  refused = λ rest. a.leads rest ∙ ap (walk_parts m) (append_assoc part more rest) ∙ b.refused (more ++ rest);
}

-- two parts, the second one the last
pub leads_both : (n : ℕ) (one two : List Part) (m k : ℕ) → Leads n one m [] → Leads m two k [] → Leads n (one ++ two) k []
leads_both n one two m k a b = record {
  leads = λ rest. ap (walk_parts n) (append_assoc one two rest) ∙ a.leads (two ++ rest) ∙ b.leads rest;
}

pub refused_first : (n : ℕ) (one two : List Part) (r : Refusal) → IsRefused n one r → IsRefused n (one ++ two) r
refused_first n one two r a = record { refused = λ rest. ap (walk_parts n) (append_assoc one two rest) ∙ a.refused (two ++ rest) }

pub refused_second : (n : ℕ) (one two : List Part) (m : ℕ) (r : Refusal) → Leads n one m [] → IsRefused m two r → IsRefused n (one ++ two) r
refused_second n one two m r a b = record { refused = λ rest. ap (walk_parts n) (append_assoc one two rest) ∙ a.leads (two ++ rest) ∙ b.refused rest }

-- ---- all of them

no_more : (parts : List Part) → parts ++ [] ≡ parts
no_more [] = refl
no_more (p ∷ parts) = ap (λ (ps : List Part). p ∷ ps) (no_more parts)

all_done : (m : ℕ) → walk_parts m [] ≡ Ok tt
unfolding walk_parts
all_done m = refl

pub walk_passes : (parts : List Part) (m : ℕ) → Leads 0 parts m [] → walk_parts 0 parts ≡ Ok tt
walk_passes parts m a = ap (walk_parts 0) (sym (no_more parts)) ∙ a.leads [] ∙ all_done m

pub walk_refused : (parts : List Part) (r : Refusal) → IsRefused 0 parts r → walk_parts 0 parts ≡ Err r
walk_refused parts r a = ap (walk_parts 0) (sym (no_more parts)) ∙ a.refused []
