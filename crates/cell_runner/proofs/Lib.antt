mod Rounds
mod Gathering
mod Reporting
