use Rattle.vera_names.proofs.NameViews.{concatenation_gives, replication_gives, bits_gives}
use Rattle.vera_names.proofs.constants.+names.Goals as goal

pub form_names_known-returns-in-Concatenation : goal.form_names_known-returns-in-Concatenation
form_names_known-returns-in-Concatenation t c = concatenation_gives _ _ _ _ _ _ c.in-Concatenation.is c.as_slice-in-Concatenation.ensures c.exprs_known.ensures

pub form_names_known-returns-in_ok-names_known-in-Replication : goal.form_names_known-returns-in_ok-names_known-in-Replication
form_names_known-returns-in_ok-names_known-in-Replication t c =
    replication_gives _ _ _ _ _ _ _ _ _ _ c.in-Replication.is c.get-in-Replication.ensures c.names_known-in-Replication.ensures c.in_ok-names_known-in-Replication.was c.as_slice-in-Replication.ensures c.exprs_known-in-Replication.ensures

pub suffix_known-returns-in_ok-names_known-in-Bits : goal.suffix_known-returns-in_ok-names_known-in-Bits
suffix_known-returns-in_ok-names_known-in-Bits t c =
    bits_gives _ _ _ _ _ _ _ _ _ c.in-Bits.is c.get-in-Bits.ensures c.names_known-in-Bits.ensures c.in_ok-names_known-in-Bits.was c.get-in-Bits-2.ensures c.names_known-in-Bits-2.ensures
