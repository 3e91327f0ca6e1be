pub mod Deeds
pub mod Meanings
pub mod Runs
pub mod Printed
pub mod Outcomes
pub mod JournalRuns
pub mod Journals
