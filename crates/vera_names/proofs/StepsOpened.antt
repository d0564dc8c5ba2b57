-- The steps of the walk, opened together: what computes one step after the other names one of these.

unfoldable pub steps : Unit {0}
unfolding Rattle.typing_rules.specs.Checked.◌>>=◌ Rattle.typing_rules.specs.Checked.refuse
steps = tt

-- the same with the rules of a part, and with parts of which there may be none or several
unfoldable pub rules : Unit {0}
unfolding Rattle.typing_rules.specs.Checked.◌>>=◌ Rattle.typing_rules.specs.Checked.refuse Rattle.typing_rules.specs.Checked.keeps Rattle.typing_rules.specs.Checked.known Rattle.typing_rules.specs.Checked.each Rattle.typing_rules.specs.Checked.perhaps
rules = tt
