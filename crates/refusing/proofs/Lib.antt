mod GivesBack
mod Refuses
