mod ChangeProving
mod Preparation
